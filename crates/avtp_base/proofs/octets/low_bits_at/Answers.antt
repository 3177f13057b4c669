use Rattle.std.proofs.Common.{arith}
use Rattle.avtp_base.proofs.BitLemmas.{bits-low}
use Rattle.avtp_base.proofs.octets.low_bits_at.Goals as goal

pub returns : goal.returns
returns c =
    bits-low c.args.at c.args.width c.args.bytes.now c.u16_at.result (λ i. omega (arith, c.type_inv.bytes i))
    c.requires.two_bytes c.requires.within c.u16_at.ensures
