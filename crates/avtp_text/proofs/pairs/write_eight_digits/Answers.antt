use Rattle.avtp_text.specs.state.Pairs.{eight_digits}
use Rattle.avtp_text.proofs.Eight.{written}
use Rattle.avtp_text.proofs.pairs.write_eight_digits.Goals as goal

pub returns : goal.returns
unfolding eight_digits
returns c =
    rw (c.write_decimal_pair-4.ensures, c.write_decimal_pair-3.ensures, c.write_decimal_pair-2.ensures, c.write_decimal_pair.ensures)
    (written c.args.out.now _ _ _ _ _ _ _ _ c.requires.room)
