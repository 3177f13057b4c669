use Rattle.std.proofs.Common.{◌≡◌, ◌-◌, ◌≤◌, ◌++◌, length}
use Rattle.cvf_format.specs.AnnexB.{nal_units, units_from}
use Rattle.cvf_format.proofs.annex_b.split_annex_b.Given as goal

abbrev pub invariant-loop-unit : goal.invariant-loop-unit
invariant-loop-unit l = record {
  within : l.at ≤ length l.bytes;
  same : nal_units l.bytes ≡ l.units.items ++ units_from l.bytes l.at;
}

abbrev pub decreases-loop-unit : goal.decreases-loop-unit
decreases-loop-unit l = length l.bytes - l.at
