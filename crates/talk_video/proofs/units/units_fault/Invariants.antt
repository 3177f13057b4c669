use Rattle.std.proofs.Common.{◌≡◌, ℕ, ◌-◌, ◌<◌, true, length}
use Rattle.cvf_format.specs.AnnexB.{nal_units}
use Rattle.cvf_format.specs.Cvf.{is_single_type}
use Rattle.talk_video.specs.AccessUnits.{type_in, unit_at}
use Rattle.talk_video.specs.state.Listing.{IsWalk, is_long_in}
use Rattle.talk_video.proofs.units.units_fault.Given as goal

abbrev pub invariant-loop-unit : goal.invariant-loop-unit
invariant-loop-unit l = record {
  walk : IsWalk l.bytes l.units;
  types : (i : ℕ) → i < l.units.number → is_single_type (type_in l.bytes (unit_at (nal_units l.bytes) i)) ≡ true;
  long : l.long ≡ is_long_in l.bytes (nal_units l.bytes) l.units.number;
}

abbrev pub decreases-loop-unit : goal.decreases-loop-unit
decreases-loop-unit l = length (nal_units l.bytes) - l.units.number
