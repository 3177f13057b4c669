use Rattle.std.proofs.Common.{◌≡◌, subst}
use Rattle.talker.specs.declared.source.Source.{Source}
use Rattle.talker.specs.state.Talking.{IsSource, stream_in}
use Rattle.talker.proofs.SourceLemmas.{audio_few}
use Rattle.talker.proofs.source.Source.clock.Goals as goal

pub of-requires-clause-few : goal.of-requires-clause-few
of-requires-clause-few c =
    let is = subst (λ (s : Source). IsSource s) c.in-Audio.is c.requires.source in
    let count = subst (λ (s : Source). c.args.packets ≡ (stream_in s).journal.times.packets) c.in-Audio.is c.requires.packets in
    audio_few c.in-Audio.stream c.in-Audio.input.now c.args.packets is.0 is.1 count
