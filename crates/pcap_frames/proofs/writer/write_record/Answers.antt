use Rattle.std.proofs.Common.{refl, to_z-of_z}
use Rattle.pcap_frames.proofs.writer.write_record.Goals as goal

pub returns : goal.returns
returns c = rw (← (rw (to_z-of_z c.ranges.arrival) at (c.record_header-header.ensures c.args.bytes.now refl))) c.write_front.ensures
