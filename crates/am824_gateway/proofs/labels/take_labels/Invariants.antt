use Rattle.std.proofs.Common.{◌≡◌, ◌*◌, length, take}
use Rattle.am824_gateway.specs.Labels.{unlabelled}
use Rattle.am824_gateway.proofs.labels.take_labels.Given as goal

abbrev pub invariant-loop-k : goal.invariant-loop-k
invariant-loop-k l = record { written : take (3 * l.k) l.out ≡ unlabelled l.k l.quadlets; size : length l.out ≡ 3 * l.n }
