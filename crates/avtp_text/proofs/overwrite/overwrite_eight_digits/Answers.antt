use Rattle.std.proofs.Common.{◌≡◌, ◌-◌, length, arith}
use Rattle.avtp_text.specs.state.Pairs.{eight_digits}
use Rattle.avtp_text.proofs.Overwriting.{part_overwritten}
use Rattle.avtp_text.proofs.Digits.{length_eight}
use Rattle.avtp_text.proofs.overwrite.overwrite_eight_digits.Goals as goal

pub returns : goal.returns
returns c =
    let end = length c.args.text.now - c.args.behind in
    let n : end - (end - 8) ≡ 8 = omega (arith, c.requires.room) in
    rw (n, c.write_eight_digits.ensures)
    (part_overwritten c.args.text.now (eight_digits c.args.number) (end - 8) 8 c.args.behind (length_eight c.args.number) (omega (arith, c.requires.room)))
