use Rattle.std.proofs.Common.{◌++◌, sym, append_assoc, to_z-of_z}
use Rattle.hex.specs.Hex.{encode_lower}
use Rattle.avtp_text.specs.Listen.{due_text, place_text}
use Rattle.avtp_text.specs.Pieces.{newline}
use Rattle.avtp_text.proofs.Printing.{part_as, part_failed, part_of, part_then}
use Rattle.avtp_text.proofs.buffer.Text.long_sample.Goals as goal

pub returns-in_err-print : goal.returns-in_err-print
returns-in_err-print g c =
    let start = rw (c.as_slice.ensures.text, c.sample_start.ensures, to_z-of_z c.ranges.instant) at c.in_err-print.ensures in
    part_as _ _ (sym (append_assoc (due_text c.args.instant c.args.frame ++ place_text c.args.seq c.args.j) (encode_lower c.args.bytes.now) newline))
    (part_failed _ _ c.from_residual.ensures.0 (part_of start))

pub returns-in_err-print_hex : goal.returns-in_err-print_hex
returns-in_err-print_hex g c =
    let start = rw (c.as_slice.ensures.text, c.sample_start.ensures, to_z-of_z c.ranges.instant) at c.in_ok-print.ensures in
    part_as _ _ (sym (append_assoc (due_text c.args.instant c.args.frame ++ place_text c.args.seq c.args.j) (encode_lower c.args.bytes.now) newline))
    (part_then _ _ (part_of start) (part_failed _ newline c.from_residual-in_err-print_hex.ensures.0 c.in_err-print_hex.ensures))

pub returns : goal.returns
returns g c =
    let start = rw (c.as_slice.ensures.text, c.sample_start.ensures, to_z-of_z c.ranges.instant) at c.in_ok-print.ensures in
    part_as _ _ (sym (append_assoc (due_text c.args.instant c.args.frame ++ place_text c.args.seq c.args.j) (encode_lower c.args.bytes.now) newline))
    (part_then _ _ (part_of start) (part_then _ _ c.in_ok-print_hex.ensures (part_of c.print-2.ensures)))
