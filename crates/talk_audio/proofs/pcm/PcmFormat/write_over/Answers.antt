use Rattle.std.proofs.Common.{List, ℕ, take, drop, append_assoc, arith}
use Rattle.talk_audio.specs.state.Packets.{patched}
use Rattle.talk_audio.proofs.PcmLemmas.{patched_behind}
use Rattle.talk_audio.proofs.pcm.PcmFormat.write_over.Goals as goal

pub returns : goal.returns
returns g c =
    let all : List ℕ = c.args.self.now.headers in
    let part : List ℕ = c.args.part.now in
    let front = patched_behind c.split_at_mut-headers.result.0.now c.put_bytes.new.out c.put_bytes-2.new.out c.put_bytes-3.new.out all part
    c.to_be_bytes.result c.args.at g.row.N
    (omega (arith, c.split_at_mut-headers.ensures.front_len, c.requires.room)) c.requires.whole c.told-part c.requires.within c.put_bytes.ensures
    c.put_bytes-2.ensures c.put_bytes-3.ensures in
    rw (front, c.to_be_bytes.ensures, c.copy_samples.ensures) (append_assoc (take 18 all) (patched (drop 18 all) c.args.at part c.args.timestamp)
    c.args.samples.now)
