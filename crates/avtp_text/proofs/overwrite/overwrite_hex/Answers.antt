use Rattle.std.proofs.Common.{◌≡◌, ◌-◌, ◌*◌, length, arith}
use Rattle.hex.specs.Hex.{encode_lower, lower_digits}
use Rattle.hex.proofs.HexLemmas.{length-encode_with}
use Rattle.avtp_text.proofs.Overwriting.{part_overwritten}
use Rattle.avtp_text.proofs.overwrite.overwrite_hex.Goals as goal

pub returns : goal.returns
returns c =
    let end = length c.args.text.now - c.args.behind in
    let size = 2 * length c.args.bytes.now in
    let n : end - (end - size) ≡ size = omega (arith, c.requires) in
    rw (n, c.write_hex.ensures)
    (part_overwritten c.args.text.now (encode_lower c.args.bytes.now) (end - size) size c.args.behind (length-encode_with lower_digits c.args.bytes.now) (omega (arith, c.requires)))
