use Rattle.std.proofs.Common.{◌≡◌, ◌*◌, length, take}
use Rattle.am824_gateway.specs.Labels.{labelled}
use Rattle.am824_gateway.proofs.labels.add_labels.Given as goal

abbrev pub invariant-loop-k : goal.invariant-loop-k
invariant-loop-k l = record { written : take (4 * l.k) l.out ≡ labelled l.k l.values; size : length l.out ≡ 4 * l.n }
