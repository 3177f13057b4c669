use Rattle.avtp_base.proofs.RowLemmas.{read_only, read_spelled}
use Rattle.pcap_frames.specs.Frame.{SpellsFrame, frame_of, frame_refusal, frame_shape}
use Rattle.pcap_frames.proofs.FrameLemmas.{frame_spelled, one_frame}
use Rattle.pcap_frames.proofs.frame.read_frame.Goals as goal

pub returns-clause-spelled : goal.returns-clause-spelled
returns-clause-spelled c =
    let bytes = c.args.frame.now in
    read_spelled frame_shape (frame_refusal bytes) (frame_of bytes) (λ v. SpellsFrame bytes v) c.read_either.result c.read_either.ensures (frame_spelled bytes)

pub returns-clause-only : goal.returns-clause-only
returns-clause-only c = λ v s.
    let bytes = c.args.frame.now in
    read_only frame_shape (frame_refusal bytes) (frame_of bytes) v c.read_either.result c.read_either.ensures s.accepted (one_frame bytes v s)
