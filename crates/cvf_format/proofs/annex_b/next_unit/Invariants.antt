use Rattle.std.proofs.Common.{◌≡◌, ◌-◌, ◌≤◌, length}
use Rattle.cvf_format.specs.AnnexB.{units_from}
use Rattle.cvf_format.proofs.annex_b.next_unit.Given as goal

abbrev pub invariant-loop-code : goal.invariant-loop-code
invariant-loop-code l = record {
  behind : l.from ≤ l.at;
  within : l.at ≤ length l.bytes;
  same : units_from l.bytes l.from ≡ units_from l.bytes l.at;
}

abbrev pub decreases-loop-code : goal.decreases-loop-code
decreases-loop-code l = length l.bytes - l.at
