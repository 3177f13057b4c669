use Rattle.std.proofs.Common.{◌≡◌, ◌+◌, ◌≤◌, ◌^◌, All, false, length}
use Rattle.schedule_judge.specs.Judge.{IsIdle, taken}
use Rattle.sample_schedule.specs.Limits.{IsEntry}
use Rattle.measured.proofs.samples.present_all.Given as goal

abbrev pub invariant-loop-entry : goal.invariant-loop-entry
invariant-loop-entry l = record {
  proper : All IsEntry l.entries.items;
  opened : l.judge.closed ≡ false;
  idle : IsIdle l.judge;
  count : taken l.judge + length l.entries.items ≤ 2 ^ 61;
}

abbrev pub decreases-loop-entry : goal.decreases-loop-entry
decreases-loop-entry l = length l.entries.items
