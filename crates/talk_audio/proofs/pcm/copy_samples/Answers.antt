use Rattle.std.proofs.Common.{◌-◌, List, ℕ, length, arith}
use Rattle.talk_audio.proofs.PcmLemmas.{in_parts}
use Rattle.talk_audio.proofs.pcm.copy_samples.Goals as goal

pub returns-in-Some-Some : goal.returns-in-Some-Some
returns-in-Some-Some c =
    let samples : List ℕ = c.args.samples.now in
    let parts = c.in-Some-Some in
    in_parts c.args.out.now c.put_bytes.new.out c.put_bytes-in-Some-Some.new.out samples parts.first.now parts.last.now (length samples - 16)
    c.requires (omega (arith, c.if-samples.true)) (omega (arith, parts.ensures.cases.enough)) parts.ensures.cases.same parts.ensures'.cases.1.same
    c.put_bytes.ensures c.put_bytes-in-Some-Some.ensures
