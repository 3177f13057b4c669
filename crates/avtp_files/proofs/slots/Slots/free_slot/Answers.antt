use Rattle.std.proofs.Common.{arith, rules}
use Rattle.std.proofs.lemmas.Grind.{common_steps}
use Rattle.avtp_files.proofs.slots.Slots.free_slot.Goals as goal

pub returns : goal.returns
returns g c = record { free = grind (arith, common_steps); inside = (search rules); same = grind (arith, common_steps) }
