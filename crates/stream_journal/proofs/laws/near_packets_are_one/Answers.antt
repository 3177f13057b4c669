use Rattle.stream_journal.proofs.NearPackets.{near_packets}
use Rattle.stream_journal.proofs.laws.near_packets_are_one.Goals as goal

pub returns : goal.returns
returns c = near_packets
