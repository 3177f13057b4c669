use Rattle.std.proofs.Common.{arith}
use Rattle.pcap_frames.proofs.Fields.{in_record, still_in_record}
use Rattle.pcap_frames.proofs.Filling.{fill_advances, fill_refused}
use Rattle.pcap_frames.proofs.reader.Reader.feed_record.Goals as goal

pub fill_record-requires : goal.fill_record-requires
fill_record-requires c =
    let this = rw (← c.self.view_is) at c.requires in
    record {
      part = in_record _ _ _ _ _ this.accepted this.styled c.self.invariant.reading;
      room = c.self.invariant.room;
      bounded = omega (arith, this.bounded);
    }

pub invariant_of-self : goal.invariant_of-self
invariant_of-self c =
    let this = rw (← c.self.view_is) at c.requires in
    record {
      room = c.in-Ok.ensures.room;
      bounded = omega (arith, this.bounded, c.in-Ok.ensures.bounded);
      reading = still_in_record _ _ c.args.style _ _ this.accepted this.styled c.in-Ok.ensures.part;
    }

pub invariant_of-self-in-Err : goal.invariant_of-self-in-Err
invariant_of-self-in-Err c =
    let this = rw (← c.self.view_is) at c.requires in
    record {
      room = c.in-Err.ensures.room;
      bounded = omega (arith, this.bounded, c.in-Err.ensures.bounded);
      reading = c.in-Err.ensures.refused.2;
    }

pub returns-in-Ok : goal.returns-in-Ok
returns-in-Ok c =
    let this = rw (← c.self.view_is) at c.requires in
    rw (← c.self.view_is) (fill_advances _ c.args.style _ _ _ this.accepted this.styled (in_record _ _ _ _ _ this.accepted this.styled c.self.invariant.reading) c.in-Ok.ensures)

pub returns-in-Err : goal.returns-in-Err
returns-in-Err c =
    let this = rw (← c.self.view_is) at c.requires in
    rw (← c.self.view_is) (fill_refused _ c.args.style _ _ _ this.accepted this.styled c.in-Err.ensures)
