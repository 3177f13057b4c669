use Rattle.std.proofs.Common.{[], subst}
use Rattle.std.proofs.lemmas.List.{append-nil}
use Rattle.talk_plan.specs.declared.plan.TalkKind.{TalkKind}
use Rattle.talk_plan.specs.Plan.{IsPlanOf}
use Rattle.packet_journal.specs.Packets.{Am824Data, H264Data, Pcm}
use Rattle.talk_audio.specs.Packets.{aaf_packet, iec_packet}
use Rattle.talker.proofs.LawLemmas.{blocks_read, packet_read}
use Rattle.talker.proofs.StreamLemmas.{frame_spells}
use Rattle.talk_video.specs.Units.{sent_units}
use Rattle.talk_video.specs.Video.{sent_packet}
use Rattle.talker.proofs.VideoLemmas.{packet_is}
use Rattle.talk_video.proofs.VideoRules.{sent_are}
use Rattle.talker.proofs.laws.packets_read_back.Goals as goal

pub returns-clause-frame : goal.returns-clause-frame
returns-clause-frame c = λ plan format sparse n samples. frame_spells (Pcm (aaf_packet format sparse plan n samples))

pub returns-clause-packet : goal.returns-clause-packet
returns-clause-packet c = λ plan format sparse n samples p kind id size. packet_read plan format sparse n samples
    (subst (λ (k : TalkKind). IsPlanOf k plan) kind p) kind id size

pub returns-clause-blocks_frame : goal.returns-clause-blocks_frame
returns-clause-blocks_frame c = λ plan n blocks. frame_spells (Am824Data (iec_packet plan n blocks))

pub returns-clause-blocks : goal.returns-clause-blocks
returns-clause-blocks c = λ plan n blocks p kind id size. blocks_read plan n blocks (subst (λ (k : TalkKind). IsPlanOf k plan) kind p) kind id size

pub returns-clause-video_frame : goal.returns-clause-video_frame
returns-clause-video_frame c = λ plan input last_stamp n. frame_spells (H264Data (sent_packet last_stamp plan input n))

pub returns-clause-video : goal.returns-clause-video
returns-clause-video c = λ plan input last_stamp n id h.
    let packet = packet_is last_stamp plan input (sent_units input) n (sent_are input) id h in
    rw append-nil at (c.packet_again.ensures (sent_packet last_stamp plan input n) [] packet.writable packet.fits)
