use Rattle.pcap_frames.proofs.FrameLemmas.{frame_only}
use Rattle.pcap_frames.proofs.frame.one_frame_spelling.Goals as goal

pub returns : goal.returns
returns c = λ bytes v fits s. frame_only bytes v fits s
