use Rattle.std.proofs.Common.{arith}
use Rattle.avtp_base.specs.Octets.{bits}
use Rattle.avtp_base.proofs.BitLemmas.{number-rest}
use Rattle.avtp_base.proofs.octets.u32_at.Goals as goal

pub returns : goal.returns
unfolding bits
returns c = omega (arith, c.read_u32.ensures, number-rest 4 c.args.at c.args.bytes.now)
