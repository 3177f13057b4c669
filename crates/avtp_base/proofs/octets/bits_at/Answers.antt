use Rattle.std.proofs.Common.{◌∙◌, sym, get_or, arith}
use Rattle.avtp_base.proofs.BitLemmas.{masked, bits-byte}
use Rattle.avtp_base.proofs.octets.bits_at.Goals as goal

pub returns : goal.returns
returns c =
    masked (get_or c.args.bytes.now c.args.at 0) c.args.first c.args.width (omega arith)
    ∙ sym (bits-byte c.args.at c.args.first c.args.width c.args.bytes.now c.requires.some c.requires.one_byte)
