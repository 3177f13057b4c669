use Rattle.std.proofs.Common.{arith}
use Rattle.pcap_frames.proofs.Lent.{passed, passes}
use Rattle.pcap_frames.proofs.reader.Reader.pass.Goals as goal

pub invariant_of-self : goal.invariant_of-self
invariant_of-self c =
    let next = rw (← c.self.view_is) at c.requires.next in
    let room = rw (← c.self.view_is) at c.requires.bounded in
    record { room = c.self.invariant.room; bounded = omega arith; reading = passed _ _ _ _ _ _ next }

pub returns : goal.returns
returns c =
    let next = rw (← c.self.view_is) at c.requires.next in
    rw (← c.self.view_is) (passes _ _ next)
