use Rattle.std.proofs.Common.{◌≡◌, ◌+◌, ◌≤◌, ◌++◌, length, take, ℕ, sym, ap, ◌∙◌, arith, length-append}
use Rattle.std.proofs.lemmas.List.{length-take-le, take-take}
use Rattle.std.proofs.Math.Seq.{take-append-add}
use Rattle.avtp_base.proofs.buffer.Buffer.push_first.Goals as goal

pub returns : goal.returns
returns c =
    let old = c.args.self.now in
    let bytes = c.args.bytes.now in
    let k : ℕ = c.args.len in
    let pushed = c.self-2.inside in
    let before : length old ≡ c.self.inside.len = ap length (sym c.self.view_is) ∙ length-take-le c.self.inside.len c.self.inside.bytes.items (omega (arith, c.self.invariant.0, c.self.invariant.1)) in
    let after : take pushed.len pushed.bytes.items ≡ old ++ bytes = c.self-2.view_is ∙ c.push.ensures in
    let size : pushed.len ≡ length (old ++ bytes) = sym (length-take-le pushed.len pushed.bytes.items (omega (arith, c.self-2.invariant.0, c.self-2.invariant.1))) ∙ ap length after in
    let within : length old + k ≤ pushed.len = omega (arith, size, length-append old bytes, c.requires.some) in
    rw (← before) (sym (take-take (length old + k) pushed.len pushed.bytes.items within) ∙ ap (take (length old + k)) after ∙ take-append-add old bytes k)
