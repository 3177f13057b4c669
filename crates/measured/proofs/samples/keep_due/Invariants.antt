use Rattle.schedule_judge.specs.Judge.{Keeps, work}
use Rattle.measured.proofs.samples.keep_due.Given as goal

abbrev pub invariant-loop-shown : goal.invariant-loop-shown
invariant-loop-shown l = Keeps l.fn.judge l.judge

abbrev pub decreases-loop-shown : goal.decreases-loop-shown
decreases-loop-shown l = work l.judge
