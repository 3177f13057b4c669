use Rattle.listener.specs.Feeding.{Keeps, work}
use Rattle.measured.proofs.hearing.drain.Given as goal

abbrev pub invariant-loop-shown : goal.invariant-loop-shown
invariant-loop-shown l = Keeps l.fn.listener l.listener

abbrev pub decreases-loop-shown : goal.decreases-loop-shown
decreases-loop-shown l = work l.listener
