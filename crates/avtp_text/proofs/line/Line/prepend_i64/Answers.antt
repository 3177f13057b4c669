use Rattle.std.proofs.Common.{arith}
use Rattle.std.proofs.lemmas.Grind.{common_steps}
use Rattle.avtp_text.proofs.Digits.{digits_of_u64}
use Rattle.avtp_text.proofs.line.Line.prepend_i64.Goals as goal

pub returns : goal.returns
returns c = record { text = grind (arith, common_steps); len = grind (arith, digits_of_u64) }
