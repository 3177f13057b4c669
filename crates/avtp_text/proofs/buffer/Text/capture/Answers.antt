use Rattle.avtp_text.specs.Listen.{capture_line}
use Rattle.avtp_text.proofs.Printing.{part_failed, part_of, part_then}
use Rattle.avtp_text.proofs.buffer.Text.capture.Goals as goal

pub returns-in_err-print_all : goal.returns-in_err-print_all
unfolding capture_line
returns-in_err-print_all g c =
    let name = rw c.as_bytes.ensures.value at c.in_err-print_all.ensures in
    part_then _ _ (part_of c.in_ok-print.ensures) (part_failed _ _ c.from_residual-in_err-print_all.ensures.0 name)

pub returns : goal.returns
unfolding capture_line
returns g c =
    let name = rw c.as_bytes.ensures.value at c.in_ok-print_all.ensures in
    part_then _ _ (part_of c.in_ok-print.ensures) (part_then _ _ name (part_of c.print-2.ensures))
