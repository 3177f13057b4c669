use Rattle.std.proofs.Common.{◌≡◌}
use Rattle.am824_gateway.specs.Labels.{first_are_linear}
use Rattle.am824_gateway.proofs.labels.are_linear.Given as goal

abbrev pub invariant-loop-k : goal.invariant-loop-k
invariant-loop-k l = l.linear ≡ first_are_linear l.k l.quadlets
