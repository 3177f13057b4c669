use Rattle.std.proofs.Common.{◌∙◌, ap, List, ℕ, refl}
use Rattle.talk_plan.specs.Ethernet.{packet_bytes}
use Rattle.talk_audio.specs.Streams.{audio_of, samples_size}
use Rattle.talk_audio.proofs.SampleLemmas.{laid_over}
use Rattle.talk_audio.proofs.audio.AudioStream.write_last.Goals as goal

pub returns : goal.returns
returns c =
    let s = c.args.self.now in
    c.write_samples.ensures
    ∙ ap (λ (xs : List ℕ). packet_bytes ((audio_of s).packet c.args.n xs))
    (rw (
      c.copy_from_slice.ensures.after,
      c.requires.frame.sent.audio.size,
      laid_over (samples_size s) c.args.rest.now c.silence-filled.result
          c.requires.part,
      c.silence-filled.ensures,
    ) refl)
