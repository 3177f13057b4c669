-- The unit that a packet of H.264 completes.
use Rattle.std.specs.Prelude.{List}
use Rattle.cvf_format.specs.Cvf.{cvf_of}
use Rattle.cvf_format.specs.WholeOrBroken.{whole_unit}
use Rattle.sample_schedule.specs.declared.item.Unit.{Unit as WholeUnit}
use Rattle.time_unfold.specs.Time.{unfolded}
use Rattle.packet_journal.specs.Deliveries.{Delivery}
use Rattle.listener.specs.Items.{events_to}

-- The unit that a delivery completes after earlier deliveries. The unit has the bytes of all its fragments, and its
-- other fields are those of the delivery.
abbrev pub completed : List Delivery → Delivery → WholeUnit
completed before d = record {
  frame = d.frame;
  arrival = d.arrival;
  seq = d.seq;
  instant = unfolded (cvf_of d.packet).header.timestamp d.arrival;
  bytes = whole_unit (events_to before d);
}
