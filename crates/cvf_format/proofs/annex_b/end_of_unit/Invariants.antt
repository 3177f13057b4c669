use Rattle.std.proofs.Common.{◌≡◌, ◌-◌, ◌≤◌, length}
use Rattle.cvf_format.specs.AnnexB.{end_behind}
use Rattle.cvf_format.proofs.annex_b.end_of_unit.Given as goal

abbrev pub invariant-loop-zeros : goal.invariant-loop-zeros
invariant-loop-zeros l = record {
  behind : l.from ≤ l.at;
  within : l.at ≤ length l.bytes;
  same : end_behind l.bytes l.from ≡ end_behind l.bytes l.at;
}

abbrev pub decreases-loop-zeros : goal.decreases-loop-zeros
decreases-loop-zeros l = length l.bytes - l.at
