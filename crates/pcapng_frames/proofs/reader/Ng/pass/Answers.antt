use Rattle.std.proofs.Common.{arith, ap, length}
use Rattle.pcapng_frames.proofs.Lent.{before_block, still_before}
use Rattle.pcapng_frames.proofs.reader.Ng.pass.Goals as goal

pub invariant_of-self : goal.invariant_of-self
invariant_of-self c =
    let next = rw (← c.self.view_is) at c.requires.next in
    let room = rw (← c.self.view_is) at c.requires.bounded in
    record {
      front_room = c.self.invariant.front_room;
      tail_room = c.self.invariant.tail_room;
      described = c.self.invariant.described;
      head = c.self.invariant.head;
      bounded = omega (arith, room, before_block _ _ next, ap length next.untaken);
      reading = still_before _ _ next c.self.invariant.reading;
    }
