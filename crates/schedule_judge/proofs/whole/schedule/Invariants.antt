use Rattle.std.proofs.Common.{All, length}
use Rattle.schedule_judge.specs.Judge.{IsIdle}
use Rattle.sample_schedule.specs.Limits.{IsEntry}
use Rattle.schedule_judge.proofs.GivenLemmas.{Between}
use Rattle.schedule_judge.proofs.whole.schedule.Given as goal

-- the judge has taken some of the entries, and the list holds all due items of these entries
abbrev pub invariant-loop-entry : goal.invariant-loop-entry
invariant-loop-entry l = record {
  proper : All IsEntry l.entries.items;
  idle : IsIdle l.judge;
  between : Between l.plan l.fn.entries.items l.entries.items l.list.items l.judge;
}

abbrev pub decreases-loop-entry : goal.decreases-loop-entry
decreases-loop-entry l = length l.entries.items
