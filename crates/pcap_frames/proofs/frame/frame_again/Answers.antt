use Rattle.pcap_frames.proofs.FrameLemmas.{frame_again}
use Rattle.pcap_frames.proofs.frame.frame_again.Goals as goal

pub returns : goal.returns
returns c = λ v whole. frame_again v whole
