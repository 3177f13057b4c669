use Rattle.avtp_text.proofs.Printing.{part_failed, part_of, part_then}
use Rattle.agree_command.proofs.command.print_sides.Goals as goal

pub returns-in_err-print_side : goal.returns-in_err-print_side
returns-in_err-print_side g c = part_failed _ _ c.from_residual.ensures.0 (part_of c.in_err-print_side.ensures)

pub returns : goal.returns
returns g c = part_then _ _ (part_of c.in_ok-print_side.ensures) (part_of c.print_side-2.ensures)
