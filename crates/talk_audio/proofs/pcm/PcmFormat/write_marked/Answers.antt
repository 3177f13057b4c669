use Rattle.std.proofs.Common.{◌≡◌, ◌∙◌, refl}
use Rattle.talk_audio.specs.Packets.{aaf_packet}
use Rattle.talk_audio.proofs.PcmLemmas.{over_first}
use Rattle.talk_audio.proofs.pcm.PcmFormat.write_marked.Goals as goal

pub returns : goal.returns
returns c =
    let pcm = c.args.self.now in
    let header : c.header-header.result ≡ (aaf_packet pcm.format pcm.sparse c.args.plan.now c.args.n
    c.args.samples.now).header = rw (c.header-header.ensures, c.stamp-stamp.ensures, c.requires.whole) refl in
    c.write_over.ensures ∙ rw c.front_bytes.ensures (over_first pcm.format pcm.sparse c.args.plan.now c.args.n c.args.samples.now pcm.headers
    c.header-header.result c.requires.format.headers header)
