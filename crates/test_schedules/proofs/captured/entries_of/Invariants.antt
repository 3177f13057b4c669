use Rattle.std.proofs.Common.{All}
use Rattle.sample_schedule.specs.Limits.{IsEntry}
use Rattle.test_schedules.proofs.captured.entries_of.Given as goal

abbrev pub invariant-loop-row : goal.invariant-loop-row
invariant-loop-row l = All IsEntry l.entries.items
