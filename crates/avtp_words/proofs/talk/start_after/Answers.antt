use Rattle.std.proofs.Common.{codes, arith, ap, ◌∙◌, ℤ, pos, w64, to_z, of_z, to_z-of_z}
use Rattle.option_words.specs.Values.{value_after}
use Rattle.option_words.specs.Word.{texts}
use Rattle.option_words.proofs.Numbers.{signed_read}
use Rattle.avtp_words.proofs.talk.start_after.Goals as goal

pub returns : goal.returns
returns c =
    let r = signed_read (value_after (codes "--start") (texts c.args.options.now)) 1000000000 c.number_after-start.result c.try_from.result (omega arith) c.try_from.ensures c.number_after-start.ensures in
    let is = c.unwrap_or.ensures ∙ r.2 in
    (r.0, ap (λ (z : ℤ). to_z w64 (of_z w64 z)) is ∙ to_z-of_z {w = w64} {z = pos r.0} r.1, r.3)
