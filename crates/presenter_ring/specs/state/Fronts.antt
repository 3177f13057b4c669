-- Only private functions and proofs use these definitions. The receiver's side of a ring.
use Rattle.std.specs.Prelude.{◌≡◌, ℕ, ◌+◌, ◌<◌, ◌≤◌, ◌^◌, ◌++◌, Bool, cond, false, List, length, Option, None, IsSome, MatchOption}
use Rattle.std.specs.Option.{option_to_list}
use Rattle.rtrb.specs.Ring.{sent, known_free, SameProducer}
use Rattle.sample_schedule.specs.declared.shown.Shown.{Shown}
use Rattle.presenter_ring.specs.declared.front.Front.{Front}
use Rattle.presenter_ring.specs.declared.receiver.Pull.{Pull}
use Rattle.presenter_ring.specs.Fronts.{hand_of, ended_of}

-- The receiver's side may pull items: the receiver ends only together with its side, and gives at most 2^62 items in
-- all. `left` tells how many items a receiver can still give at most, and `ended` tells the answer with which it ended,
-- if it has ended.
pub record CanFeed {R : Type 0} (left : R → ℕ) (ended : R → Option Pull) (receiver : R) (front : Front) : Type 0 where
  pub live : ended_of front ≡ None → ended receiver ≡ None
  pub room : front.given + left receiver ≤ 2 ^ 62

-- the receiver's side may take a turn of at least one item
pub record CanTurn {R : Type 0} (left : R → ℕ) (ended : R → Option Pull) (receiver : R) (front : Front) (most : ℕ) : Type 0 where
  pub some : 0 < most
  pub ready : CanFeed left ended receiver front

-- What the receiver's side did. `gave` tells which items a receiver gave, and `left` tells how many items it can still
-- give at most. If the receiver has ended, `ended` tells its final answer.
pub record HasFed {R : Type 0} (gave : R → R → List Shown → Type 0) (left : R → ℕ) (ended : R → Option Pull) (receiver receiver' : R) (before after : Front) : Type 0 where
  pub given : List Shown
  pub pushed : List Shown
  pub gives : (begun : R) (items : List Shown) → gave begun receiver items → gave begun receiver' (items ++ given)
  pub leaves : left receiver' + length given ≤ left receiver
  pub in_order : hand_of before ++ given ≡ pushed ++ hand_of after
  pub sends : sent after.producer ≡ sent before.producer ++ pushed
  pub same_ring : SameProducer before.producer after.producer
  pub counted : after.given ≡ before.given + length given
  pub ends : ended_of before ≡ None → ended_of after ≡ ended receiver'
  pub stays : IsSome (ended_of before) → (ended_of after ≡ ended_of before) × (receiver' ≡ receiver)

-- Nothing could be pushed, for one of two reasons. Either `hand` holds an item and no slot was known to be free, or
-- `hand` is empty and the receiver has ended.
abbrev pub IsStuck : Front → Front → Type 0
IsStuck before after = MatchOption after.hand (IsSome (ended_of after)) (λ shown. known_free before.producer ≡ 0)

-- What the receiver's side did to push one item. `pushed` tells whether it pushed the item.
pub record Feeds {R : Type 0} (gave : R → R → List Shown → Type 0) (left : R → ℕ) (ended : R → Option Pull) (receiver receiver' : R) (before after : Front) (pushed : Bool) : Type 0 where
  pub fed : HasFed gave left ended receiver receiver' before after
  pub sends : length (sent after.producer) ≡ length (sent before.producer) + cond pushed 1 0
  pub stuck : pushed ≡ false → IsStuck before after

-- The receiver's side took a turn. If it pushed nothing, nothing could be pushed.
pub record TakesFrontTurn {R : Type 0} (gave : R → R → List Shown → Type 0) (left : R → ℕ) (ended : R → Option Pull) (receiver receiver' : R) (before after : Front) : Type 0 where
  pub fed : HasFed gave left ended receiver receiver' before after
  pub stuck : length (sent after.producer) ≡ length (sent before.producer) → IsStuck before after

-- `item` is the item that was in `hand`. If `hand` was empty, `item` is the receiver's next item, or `None` if the
-- receiver has ended.
pub record Takes {R : Type 0} (gave : R → R → List Shown → Type 0) (left : R → ℕ) (ended : R → Option Pull) (receiver receiver' : R) (before after : Front) (item : Option Shown) : Type 0 where
  pub given : List Shown
  pub gives : (begun : R) (items : List Shown) → gave begun receiver items → gave begun receiver' (items ++ given)
  pub leaves : left receiver' + length given ≤ left receiver
  pub in_order : hand_of before ++ given ≡ option_to_list item
  pub producer : after.producer ≡ before.producer
  pub empty : after.hand ≡ None
  pub fewer : after.pushes + length (option_to_list item) ≤ after.given
  pub counted : after.given ≡ before.given + length given
  pub ends : ended_of before ≡ None → ended_of after ≡ ended receiver'
  pub stays : IsSome (ended_of before) → (ended_of after ≡ ended_of before) × (receiver' ≡ receiver)
  pub none : item ≡ None → IsSome (ended_of after)
