use Rattle.packet_journal.proofs.Carried.{clock_belongs, clock_copy_of}
use Rattle.packet_journal.proofs.laws.carried_clock_packet_is_delivered.Goals as goal

pub returns-clause-belongs : goal.returns-clause-belongs
returns-clause-belongs c = λ shift p m r is carries. clock_belongs shift p m r is carries

pub returns-clause-copy : goal.returns-clause-copy
returns-clause-copy c = λ p m frame r carries. clock_copy_of p m frame r carries
