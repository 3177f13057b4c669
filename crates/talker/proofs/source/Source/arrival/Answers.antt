use Rattle.std.proofs.Common.{◌≡◌, ◌<◌, ℕ, ap, pos, refl, subst, sym, arith}
use Rattle.std.proofs.lemmas.Int.{ints}
use mir.Val.{of_z, to_z}
use mir.Syntax.{w64}
use Rattle.talker.specs.declared.source.Source.{Source}
use Rattle.talker.specs.Journal.{Stream, stream_of}
use Rattle.talker.specs.state.Talking.{IsSource, stream_in}
use Rattle.talker.proofs.SourceLemmas.{audio_few, video_early, video_packets, video_stream_is}
use Rattle.talker.proofs.source.Source.arrival.Goals as goal

pub arrival-requires : goal.arrival-requires
arrival-requires c =
    let s = c.in-Audio.stream in
    let is = subst (λ (s : Source). IsSource s) c.in-Audio.is c.requires.source_is in
    let known = subst (λ (s : Source). c.args.n < (stream_in s).journal.times.packets) c.in-Audio.is c.requires.known in
    let packets : ℕ = (stream_of s.plan c.in-Audio.input.now).journal.times.packets in
    record { talked = is.0.plan; frames = audio_few s c.in-Audio.input.now packets is.0 is.1 refl c.args.n known }

pub arrival-requires-in-Video : goal.arrival-requires-in-Video
arrival-requires-in-Video c =
    let is = subst (λ (s : Source). IsSource s) c.in-Video.is c.requires.source_is in
    let known = subst (λ (s : Source). c.args.n < (stream_in s).journal.times.packets) c.in-Video.is c.requires.known in
    record { video = is; known = omega (arith, video_packets c.in-Video.stream is) }

pub returns-in-Video : goal.returns-in-Video
returns-in-Video c =
    let v = c.in-Video.stream in
    let is = subst (λ (s : Source). IsSource s) c.in-Video.is c.requires.source_is in
    let known = subst (λ (s : Source). c.args.n < (stream_in s).journal.times.packets) c.in-Video.is c.requires.known in
    let early = video_early v c.args.n is (omega (arith, video_packets v is)) in
    let same = ap (λ (s : Stream). s.arrival c.args.n) (video_stream_is v is) in
    subst (λ (s : Source). to_z w64 (of_z w64 c.arrival-in-Video.result) ≡ pos ((stream_in s).arrival c.args.n)) (sym c.in-Video.is)
    (omega (arith, ints, early, same, c.arrival-in-Video.ensures))
