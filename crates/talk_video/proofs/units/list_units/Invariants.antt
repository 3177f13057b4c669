use Rattle.std.proofs.Common.{◌≡◌, ◌-◌, length}
use Rattle.cvf_format.specs.AnnexB.{nal_units}
use Rattle.talk_video.specs.state.Listing.{IsWalk}
use Rattle.talk_video.specs.Streams.{AreInside, first_units}
use Rattle.talk_video.proofs.units.list_units.Given as goal

abbrev pub invariant-loop-unit : goal.invariant-loop-unit
invariant-loop-unit l = record {
  walk : IsWalk l.bytes l.units;
  inside : AreInside l.bytes l.units.number;
  listed : l.listed.items ≡ first_units l.bytes l.units.number;
}

abbrev pub decreases-loop-unit : goal.decreases-loop-unit
decreases-loop-unit l = length (nal_units l.bytes) - l.units.number
