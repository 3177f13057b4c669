use Rattle.std.proofs.Common.{All}
use Rattle.sample_schedule.specs.Limits.{IsEntry}
use Rattle.measured.proofs.stream.Stream.entries.Given as goal

abbrev pub invariant-loop-n : goal.invariant-loop-n
invariant-loop-n l = All IsEntry l.entries.items
