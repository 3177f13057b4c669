use Rattle.std.proofs.Common.{List}
use Rattle.sample_schedule.specs.declared.entry.Entry.{Entry}
use Rattle.schedule_judge.specs.Judge.{Keeps, work}
use Rattle.schedule_judge.specs.state.Judge.{HasGiven}
use Rattle.sample_schedule.specs.Verdicts.{Clock}
use Rattle.schedule_judge.proofs.whole.give_all.Given as goal

-- the list holds the items that the judge has returned so far
abbrev pub invariant-loop-shown : goal.invariant-loop-shown
invariant-loop-shown l = record {
  given : (clock : Clock) (entries : List Entry) → HasGiven clock entries l.fn.list.items l.fn.judge → HasGiven clock entries l.list.items l.judge;
  keeps : Keeps l.fn.judge l.judge;
}

abbrev pub decreases-loop-shown : goal.decreases-loop-shown
decreases-loop-shown l = work l.judge
