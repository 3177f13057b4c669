-- Only private functions and proofs use these definitions. What a receiver did in one call.
use Rattle.std.specs.Prelude.{◌≡◌, ℕ, ◌+◌, ◌≤◌, ◌++◌, List, length, Option}
use Rattle.sample_schedule.specs.declared.shown.Shown.{Shown}
use Rattle.presenter_ring.specs.declared.receiver.Pull.{Pull}
use Rattle.presenter_ring.specs.Pulls.{items_of, ending_of}

-- the receiver gave no item, and did not end
pub record StaysAs {R : Type 0} (gave : R → R → List Shown → Type 0) (left : R → ℕ) (ended : R → Option Pull) (receiver receiver' : R) : Type 0 where
  pub gives : (begun : R) (items : List Shown) → gave begun receiver items → gave begun receiver' items
  pub leaves : left receiver' ≡ left receiver
  pub ends : ended receiver' ≡ ended receiver

-- the receiver answered `pull`
pub record HasAnswered {R : Type 0} (gave : R → R → List Shown → Type 0) (left : R → ℕ) (ended : R → Option Pull) (receiver receiver' : R) (pull : Pull) : Type 0 where
  pub gives : (begun : R) (items : List Shown) → gave begun receiver items → gave begun receiver' (items ++ items_of pull)
  pub leaves : left receiver' + length (items_of pull) ≤ left receiver
  pub ends : ended receiver' ≡ ending_of pull
