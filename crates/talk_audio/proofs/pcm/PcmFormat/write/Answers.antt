use Rattle.std.proofs.Common.{◌∙◌}
use Rattle.talk_audio.proofs.PcmLemmas.{over_steady}
use Rattle.talk_audio.proofs.pcm.PcmFormat.write.Goals as goal

pub returns-then-self : goal.returns-then-self
returns-then-self c =
    let pcm = c.args.self.now in
    c.write_over.ensures ∙ over_steady pcm.format pcm.sparse c.args.plan.now c.args.n c.args.samples.now pcm.headers c.first_stamped_instant-instant.result
    (c.requires.format.steady c.if-self.true) c.requires.format.headers c.first_stamped_instant-instant.ensures
