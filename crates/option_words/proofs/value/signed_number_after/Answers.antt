use Rattle.std.proofs.Common.{ℤ, ap, subst, ◌∙◌, w64, to_z, of_z, to_z-of_z, unwrap_or}
use Rattle.option_words.specs.Values.{IsReadSigned}
use Rattle.option_words.proofs.Numbers.{fits_mag, fits_after, signed_read_of}
use Rattle.option_words.proofs.value.signed_number_after.Goals as goal

pub returns-in-Some : goal.returns-in-Some
returns-in-Some c =
    let read = c.signed_number_of.result in
    let default = c.args.default in
    let passed = to_z-of_z {w = w64} {z = default} (fits_mag default c.ranges.default.sfits) in
    let back = to_z-of_z {w = w64} {z = unwrap_or read default} (fits_after read default c.ranges.default.sfits c.signed_number_of.ensures.size) in
    let is = ap (λ (z : ℤ). to_z w64 (of_z w64 z)) (c.unwrap_or.ensures ∙ ap (unwrap_or read) passed) ∙ back in
    rw is (subst (λ v. IsReadSigned default v (unwrap_or read default)) c.in-Some.ensures
    (signed_read_of c.in-Some.word.now read default c.signed_number_of.ensures.spelled c.signed_number_of.ensures.size c.signed_number_of.ensures.none))
