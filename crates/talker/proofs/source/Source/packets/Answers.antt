use Rattle.std.proofs.Common.{◌≡◌, subst, sym}
use Rattle.talker.specs.declared.source.Source.{Source}
use Rattle.talker.specs.state.Talking.{IsSource, stream_in}
use Rattle.talker.proofs.SourceLemmas.{video_packets}
use Rattle.talker.proofs.source.Source.packets.Goals as goal

pub returns-in-Video : goal.returns-in-Video
returns-in-Video c =
    let is = subst (λ (s : Source). IsSource s) c.in-Video.is c.requires in
    subst (λ (s : Source). c.in-Video.stream.packets ≡ (stream_in s).journal.times.packets) (sym c.in-Video.is) (video_packets c.in-Video.stream is)
