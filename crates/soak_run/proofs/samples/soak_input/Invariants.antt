-- The sample frames with numbers less than `number` were appended.
use Rattle.std.proofs.Common.{◌≡◌}
use Rattle.soak_run.specs.Captured.{sample_frames}
use Rattle.soak_run.proofs.samples.soak_input.Given as goal

abbrev pub invariant-loop-number : goal.invariant-loop-number
invariant-loop-number l = l.samples.items ≡ sample_frames l.number
