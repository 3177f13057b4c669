use Rattle.packet_journal.proofs.InUnits.{in_unit}
use Rattle.packet_journal.proofs.laws.packets_are_of_units.Goals as goal

pub returns : goal.returns
returns c = in_unit
