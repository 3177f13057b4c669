use Rattle.std.proofs.Common.{arith}
use Rattle.byteorder.specs.Numbers.{big_from-lt}
use Rattle.avtp_base.specs.Octets.{bits}
use Rattle.avtp_base.proofs.BitLemmas.{number-rest}
use Rattle.avtp_base.proofs.octets.u48_at.Goals as goal

pub returns : goal.returns
unfolding bits
returns c =
    let fits = big_from-lt c.args.at 6 c.args.bytes.now (λ i. omega (arith, c.type_inv.bytes i)) in
    omega (arith, c.read_u48.ensures, number-rest 6 c.args.at c.args.bytes.now, fits)
