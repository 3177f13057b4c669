use Rattle.std.proofs.Common.{arith, ap, ◌∙◌, unsigned_abs, w64, to_z-of_z}
use Rattle.option_words.proofs.Numbers.{fits, signed_is}
use Rattle.option_words.proofs.number.is_signed.Goals as goal

pub returns-in-Some : goal.returns-in-Some
returns-in-Some c =
    let z = c.in-Some.z in
    let size = c.unsigned_abs.ensures.value ∙ ap unsigned_abs (to_z-of_z {w = w64} {z = z} (fits z c.in-Some.ensures.size)) in
    rw (size, c.from.ensures) (signed_is c.args.most z c.args.word.now c.in-Some.ensures.size (omega arith) c.in-Some.ensures.spelled)
