use Rattle.std.proofs.Common.{◌≡◌}
use Rattle.std.specs.Prelude.{None}
use Rattle.listener_pair.specs.Ways.{first_way}
use Rattle.listener_pair.proofs.way.first_of_samples.Given as goal

-- no sample so far differs
abbrev pub invariant-loop-j : goal.invariant-loop-j
invariant-loop-j l = first_way l.a l.b l.j ≡ None
