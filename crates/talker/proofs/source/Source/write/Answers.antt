use Rattle.std.proofs.Common.{◌≡◌, ◌<◌, length, ap, subst, sym, ◌∙◌, arith}
use Rattle.talker.specs.declared.source.Source.{Source}
use Rattle.talk_plan.specs.Ethernet.{packet_bytes}
use Rattle.talker.specs.Journal.{Stream}
use Rattle.talker.specs.state.Talking.{IsSource, stream_in}
use Rattle.talker.proofs.SourceLemmas.{audio_packets, audio_size, video_packets, video_stream_is}
use Rattle.talker.proofs.source.Source.write.Goals as goal

pub write-requires-clause-room : goal.write-requires-clause-room
write-requires-clause-room c =
    let is = subst (λ (s : Source). IsSource s) c.in-Audio.is c.requires.packet.source_is in
    subst (λ (s : Source). length c.args.out.now ≡ length (packet_bytes ((stream_in s).journal.packet c.args.n))) c.in-Audio.is c.requires.room
    ∙ audio_size c.in-Audio.stream c.in-Audio.input.now c.args.n is.0

pub write-requires-clause-packet : goal.write-requires-clause-packet
write-requires-clause-packet c =
    let is = subst (λ (s : Source). IsSource s) c.in-Audio.is c.requires.packet.source_is in
    let known = subst (λ (s : Source). c.args.n < (stream_in s).journal.times.packets) c.in-Audio.is c.requires.packet.known in
    record { audio = is.0; limit = is.1; known = omega (arith, audio_packets c.in-Audio.stream c.in-Audio.input.now is.0) }

pub write-requires-in-Video-clause-packet : goal.write-requires-in-Video-clause-packet
write-requires-in-Video-clause-packet c =
    let is = subst (λ (s : Source). IsSource s) c.in-Video.is c.requires.packet.source_is in
    let known = subst (λ (s : Source). c.args.n < (stream_in s).journal.times.packets) c.in-Video.is c.requires.packet.known in
    record { video = is; known = omega (arith, video_packets c.in-Video.stream is) }

pub write-requires-in-Video-clause-room : goal.write-requires-in-Video-clause-room
write-requires-in-Video-clause-room c =
    let is = subst (λ (s : Source). IsSource s) c.in-Video.is c.requires.packet.source_is in
    subst (λ (s : Source). length c.args.out.now ≡ length (packet_bytes ((stream_in s).journal.packet c.args.n))) c.in-Video.is c.requires.room
    ∙ ap (λ (s : Stream). length (packet_bytes (s.journal.packet c.args.n))) (video_stream_is c.in-Video.stream is)

pub returns-in-Video : goal.returns-in-Video
returns-in-Video c =
    let is = subst (λ (s : Source). IsSource s) c.in-Video.is c.requires.packet.source_is in
    subst (λ (s : Source). c.write-in-Video.new.out ≡ packet_bytes ((stream_in s).journal.packet c.args.n)) (sym c.in-Video.is)
    (c.write-in-Video.ensures ∙ sym (ap (λ (s : Stream). packet_bytes (s.journal.packet c.args.n)) (video_stream_is c.in-Video.stream is)))
