use Rattle.std.proofs.Common.{drop, sym, take}
use Rattle.hex.specs.Hex.{encode_lower}
use Rattle.std.proofs.lemmas.List.{take-append-drop}
use Rattle.avtp_text.proofs.Printing.{part_as, part_failed, part_of, part_then}
use Rattle.avtp_text.proofs.Hex.{split_hex}
use Rattle.avtp_text.proofs.buffer.Text.+print_hex.Goals as goal

pub returns-in_err-print_hex_piece : goal.returns-in_err-print_hex_piece
returns-in_err-print_hex_piece g t c =
    let first = rw c.split_at.ensures.front at c.in_err-print_hex_piece.ensures in
    part_as _ _ (split_hex c.args.bytes.now (take 2048 c.args.bytes.now) (drop 2048 c.args.bytes.now) (sym (take-append-drop 2048 c.args.bytes.now))) (part_failed _ (encode_lower (drop 2048 c.args.bytes.now)) c.from_residual.ensures.0 (part_of first))

pub returns : goal.returns
returns g t c =
    part_as _ _ (split_hex c.args.bytes.now _ _ (sym (rw (c.split_at.ensures.front, c.split_at.ensures.back) (take-append-drop 2048 c.args.bytes.now)))) (part_then _ _ (part_of c.in_ok-print_hex_piece.ensures) c.print_hex.ensures)
