use Rattle.std.proofs.lemmas.List.{take-append-drop}
use Rattle.avtp_text.proofs.Printing.{part_as, part_of, part_then}
use Rattle.avtp_text.proofs.buffer.Text.+print_all.Goals as goal

pub returns : goal.returns
returns g t c =
    part_as _ _ (rw (c.split_at.ensures.front, c.split_at.ensures.back) (take-append-drop 65536 c.args.text.now)) (part_then _ _ (part_of c.in_ok-print.ensures) c.print_all.ensures)
