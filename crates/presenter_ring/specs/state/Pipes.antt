-- Only private functions and proofs use these definitions. A ring between two threads, the item in
-- `hand` that waits for a slot of the ring, and what a round does.
use Rattle.std.specs.Prelude.{◌≡◌, ℕ, ◌+◌, ◌<◌, ◌++◌, Bool, List, [], length, IfOk, MatchBool, OnErr, Option, Result}
use Rattle.avtp_base.specs.declared.failed.Failed.{Failed}
use Rattle.avtp_base.specs.Faults.{IsCounted}
use Rattle.sample_schedule.specs.declared.shown.Shown.{Shown}
use Rattle.presenter_ring.specs.declared.pipe.Pipe.{Pipe}
use Rattle.presenter_ring.specs.declared.receiver.Pull.{Pull}
use Rattle.presenter_ring.specs.Fronts.{hand_of}
use Rattle.presenter_ring.specs.state.Backs.{HasPresented}
use Rattle.presenter_ring.specs.state.Fronts.{HasFed, IsStuck}
use Rattle.presenter_ring.specs.Pipes.{capacity_of, ring_of, pushed_by, popped_by, work, EndsWith, IsRound}

-- nothing was pushed or popped: the ring is empty, and nothing could be pushed
pub record IsStill (before after : Pipe) : Type 0 where
  pub none_pushed : pushed_by after ≡ pushed_by before
  pub none_popped : popped_by after ≡ popped_by before
  pub empty : ring_of after ≡ []
  pub stuck : IsStuck before.front after.front

-- an item was pushed or popped
abbrev pub HasStepped : Pipe → Pipe → Type 0
HasStepped before after = length (pushed_by before) + length (popped_by before) < length (pushed_by after) + length (popped_by after)

-- Both sides took their turns. `stepped` tells whether an item was pushed or popped; if the presenter failed, one was.
pub record TakesTurns {R P : Type 0} (gave : R → R → List Shown → Type 0) (left : R → ℕ) (ended : R → Option Pull) (handed : P → P → List Shown → Type 0) (faults : P → ℕ)
    (receiver receiver' : R) (presenter presenter' : P) (before after : Pipe) (result : Result Bool Failed) : Type 0 where
  pub fed : HasFed gave left ended receiver receiver' before.front after.front
  pub presented : HasPresented handed presenter presenter' before.back after.back
  pub stepped : IfOk result (λ stepped. MatchBool stepped (HasStepped before after) (IsStill before after))
  pub failed : OnErr result (HasStepped before after)
  pub counted : IsCounted (faults presenter) (faults presenter') result
  pub capacity : after.capacity ≡ before.capacity

-- `hand` was emptied, and nothing else changed
pub record EmptiesHand (before after : Pipe) : Type 0 where
  pub emptied : hand_of after.front ≡ []
  pub producer : after.front.producer ≡ before.front.producer
  pub back : after.back ≡ before.back
  pub ended : after.front.ended ≡ before.front.ended
  pub given : after.front.given ≡ before.front.given
  pub capacity : after.capacity ≡ before.capacity

-- The presenter got the item in `hand`, if there was one, without the ring. A presenter that fails had got one.
pub record PresentsHand {P : Type 0} (handed : P → P → List Shown → Type 0) (faults : P → ℕ) (presenter presenter' : P) (before after : Pipe) (result : Result Unit Failed) : Type 0 where
  pub hands : (begun : P) (items : List Shown) → handed begun presenter items → handed begun presenter' (items ++ hand_of before.front)
  pub failed : OnErr result (length (hand_of before.front) ≡ 1)
  pub counted : IsCounted (faults presenter) (faults presenter') result
  pub kept : EmptiesHand before after

-- What a round did until it looks whether the pipe is drained. Even if the presenter failed, less work is left.
pub record Advances {R P : Type 0} (gave : R → R → List Shown → Type 0) (left : R → ℕ) (ended : R → Option Pull) (handed : P → P → List Shown → Type 0) (faults : P → ℕ)
    (receiver receiver' : R) (presenter presenter' : P) (before after : Pipe) (result : Result Unit Failed) : Type 0 where
  pub moved : IsRound gave left handed receiver receiver' presenter presenter' before after
  pub ends : EndsWith ended receiver receiver' before after
  pub counted : IsCounted (faults presenter) (faults presenter') result
  pub failed : OnErr result (work (left receiver') after < work (left receiver) before)
  pub capacity : capacity_of after ≡ capacity_of before
