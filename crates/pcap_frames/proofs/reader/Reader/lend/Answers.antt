use Rattle.pcap_frames.proofs.Lent.{next_long}
use Rattle.pcap_frames.proofs.reader.Reader.lend.Goals as goal

pub view-requires : goal.view-requires
view-requires c = next_long _ _ c.requires
