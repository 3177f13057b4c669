use Rattle.std.proofs.Common.{◌≡◌, ◌<◌, length, ap, subst, sym, ◌∙◌, arith}
use Rattle.talker.specs.declared.source.Source.{Source}
use Rattle.talk_plan.specs.Ethernet.{packet_bytes}
use Rattle.talker.specs.Journal.{Stream}
use Rattle.talker.specs.state.Talking.{IsSource, stream_in}
use Rattle.talker.proofs.SourceLemmas.{audio_size, video_packets, video_stream_is}
use Rattle.talker.proofs.source.Source.size.Goals as goal

pub frame_size-requires : goal.frame_size-requires
frame_size-requires c =
    let is = subst (λ (s : Source). IsSource s) c.in-Video.is c.requires.source_is in
    let known = subst (λ (s : Source). c.args.n < (stream_in s).journal.times.packets) c.in-Video.is c.requires.known in
    record { video = is; known = omega (arith, video_packets c.in-Video.stream is) }

pub returns-in-Audio : goal.returns-in-Audio
returns-in-Audio c =
    let is = subst (λ (s : Source). IsSource s) c.in-Audio.is c.requires.source_is in
    subst (λ (s : Source). c.frame_limit.result ≡ length (packet_bytes ((stream_in s).journal.packet c.args.n))) (sym c.in-Audio.is)
    (c.frame_limit.ensures.value ∙ sym (audio_size c.in-Audio.stream c.in-Audio.input.now c.args.n is.0))

pub returns-in-Video : goal.returns-in-Video
returns-in-Video c =
    let is = subst (λ (s : Source). IsSource s) c.in-Video.is c.requires.source_is in
    subst (λ (s : Source). c.frame_size.result ≡ length (packet_bytes ((stream_in s).journal.packet c.args.n))) (sym c.in-Video.is)
    (c.frame_size.ensures ∙ sym (ap (λ (s : Stream). length (packet_bytes (s.journal.packet c.args.n))) (video_stream_is c.in-Video.stream is)))
