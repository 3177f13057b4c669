use Rattle.std.proofs.Common.{◌≡◌, ◌∙◌, length, take, ap, sym, arith, rules}
use Rattle.std.proofs.lemmas.List.{take_all}
use Rattle.device_rack.proofs.Silences.{silence_next}
use Rattle.device_rack.specs.RawOutput.{silence_of}
use Rattle.device_rack.proofs.silent_bytes.Silence.piece.Goals as goal

pub loop-j-preserved : goal.loop-j-preserved
loop-j-preserved c = rw c.byte.ensures (silence_next c.args.self c.loop-j.byte-items c.loop-j.j (search rules) c.loop-j.invariant)

pub returns : goal.returns
returns c =
    let long : length c.loop-j.byte-items ≡ 1024 = c.loop-j-test.array_long in
    let all : take c.loop-j.j c.loop-j.byte-items ≡ c.loop-j.byte-items = take_all c.loop-j.j c.loop-j.byte-items (omega arith) in
    let end : c.loop-j.j ≡ 1024 = omega arith in
    sym all ∙ c.loop-j.invariant ∙ ap (silence_of c.args.self) end
