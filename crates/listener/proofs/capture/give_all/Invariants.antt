use Rattle.std.proofs.Common.{ℕ, List}
use Rattle.listener.specs.Feeding.{Keeps, work}
use Rattle.listener.specs.state.Feeding.{HasGiven}
use Rattle.listener.proofs.capture.give_all.Given as goal

abbrev pub invariant-loop-shown : goal.invariant-loop-shown
invariant-loop-shown l = record {
  given : (bytes : List ℕ) → HasGiven bytes l.fn.list.items l.fn.listener → HasGiven bytes l.list.items l.listener;
  keeps : Keeps l.fn.listener l.listener;
}

abbrev pub decreases-loop-shown : goal.decreases-loop-shown
decreases-loop-shown l = work l.listener
