use Rattle.avtp_base.proofs.RowLemmas.{spelled_once}
use Rattle.pcap_frames.specs.Frame.{SpellsFrame, frame_of, frame_refusal}
use Rattle.pcap_frames.proofs.FrameLemmas.{frame_spelled, one_frame}
use Rattle.pcap_frames.proofs.frame.one_frame.Goals as goal

pub returns : goal.returns
returns c = λ bytes. spelled_once (frame_refusal bytes) (λ v. SpellsFrame bytes v) (frame_of bytes) (frame_spelled bytes) (λ v s. s.accepted) (one_frame bytes)
