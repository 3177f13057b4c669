use Rattle.packet_journal.proofs.Carried.{carried_belongs, copy_of}
use Rattle.packet_journal.proofs.laws.carried_packet_is_delivered.Goals as goal

pub returns-clause-belongs : goal.returns-clause-belongs
returns-clause-belongs c = carried_belongs c.packet_again.ensures

pub returns-clause-copy : goal.returns-clause-copy
returns-clause-copy c p lead n frame r = copy_of p lead n frame r
