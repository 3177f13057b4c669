-- Only private functions and proofs use these definitions. The presenter's side of a ring.
use Rattle.std.specs.Prelude.{◌≡◌, ℕ, ◌+◌, ◌<◌, ◌^◌, ◌++◌, Bool, List, [], length, IfOk, MatchBool, OnErr, Result}
use Rattle.avtp_base.specs.declared.failed.Failed.{Failed}
use Rattle.avtp_base.specs.Faults.{IsCounted}
use Rattle.rtrb.specs.Ring.{received, known_items, SameConsumer}
use Rattle.sample_schedule.specs.declared.shown.Shown.{Shown}
use Rattle.presenter_ring.specs.declared.back.Back.{Back}

-- the presenter's side may take a turn of at least one item, and its count of items stays below 2^64
pub record HasSpace (back : Back) (most : ℕ) : Type 0 where
  pub some : 0 < most
  pub room : length (received back.consumer) + most < 2 ^ 64

-- What the presenter's side did. `handed` tells which items a presenter got.
pub record HasPresented {P : Type 0} (handed : P → P → List Shown → Type 0) (presenter presenter' : P) (before after : Back) : Type 0 where
  pub presented : List Shown
  pub hands : (begun : P) (items : List Shown) → handed begun presenter items → handed begun presenter' (items ++ presented)
  pub receives : received after.consumer ≡ received before.consumer ++ presented
  pub same_ring : SameConsumer before.consumer after.consumer

-- one more item was popped
abbrev pub IsOneMore : Back → Back → Type 0
IsOneMore before after = length (received after.consumer) ≡ length (received before.consumer) + 1

-- nothing was popped, and no item was known to be in the ring
pub record IsIdle (before after : Back) : Type 0 where
  pub none : length (received after.consumer) ≡ length (received before.consumer)
  pub empty : known_items before.consumer ≡ []

-- The presenter's side presented the next item of the ring, if there was one. If nothing was popped, no item was known
-- to be in the ring. If the presenter failed, an item was popped, and the fault was counted.
pub record PresentsNext {P : Type 0} (handed : P → P → List Shown → Type 0) (faults : P → ℕ) (presenter presenter' : P) (before after : Back) (result : Result Bool Failed) : Type 0 where
  pub presented : HasPresented handed presenter presenter' before after
  pub more : IfOk result (λ more. MatchBool more (IsOneMore before after) (IsIdle before after))
  pub failed : OnErr result (IsOneMore before after)
  pub counted : IsCounted (faults presenter) (faults presenter') result

-- The presenter's side took a turn, and presented each item that it popped. If the presenter's side popped no item, it
-- knew of no item in the ring. If the presenter failed, at least one item was popped, and the fault was counted.
pub record TakesBackTurn {P : Type 0} (handed : P → P → List Shown → Type 0) (faults : P → ℕ) (presenter presenter' : P) (before after : Back) (result : Result Unit Failed) : Type 0 where
  pub presented : HasPresented handed presenter presenter' before after
  pub idle : length (received after.consumer) ≡ length (received before.consumer) → IsIdle before after
  pub failed : OnErr result (length (received before.consumer) < length (received after.consumer))
  pub counted : IsCounted (faults presenter) (faults presenter') result
