use Rattle.std.proofs.Common.{rules}
use Rattle.avtp_base.specs.Rows.{Writes}
use Rattle.avtp_base.proofs.RowLemmas.{written_so}
use Rattle.pcap_frames.specs.Frame.{Frame, SpellsFrame, frame_shape, frame_spelling, plain_frame}
use Rattle.pcap_frames.proofs.FrameLemmas.{frame_again}
use Rattle.pcap_frames.proofs.frame.write_frame.Goals as goal

pub returns-in-None-clause-read_back : goal.returns-in-None-clause-read_back
returns-in-None-clause-read_back c =
    let v : Frame = frame_shape c.args.frame.now in
    let written : Writes (frame_spelling v) c.args.out.now c.write_front.new.out c.write_front.result = search rules in
    written_so (frame_spelling v) c.args.out.now c.write_front.new.out (λ bytes. SpellsFrame bytes (plain_frame v)) c.write_front.result written (frame_again v c.requires)

pub returns-in-Some-clause-read_back : goal.returns-in-Some-clause-read_back
returns-in-Some-clause-read_back c =
    let v : Frame = frame_shape c.args.frame.now in
    let written : Writes (frame_spelling v) c.args.out.now c.write_front-in-Some.new.out c.write_front-in-Some.result = search rules in
    written_so (frame_spelling v) c.args.out.now c.write_front-in-Some.new.out (λ bytes. SpellsFrame bytes (plain_frame v)) c.write_front-in-Some.result written
    (frame_again v c.requires)
