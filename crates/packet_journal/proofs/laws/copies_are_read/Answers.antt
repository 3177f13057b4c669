use Rattle.packet_journal.proofs.Copies.{clock_copy_read, copy_read}
use Rattle.packet_journal.proofs.laws.copies_are_read.Goals as goal

pub returns-clause-packet : goal.returns-clause-packet
returns-clause-packet c = copy_read c.packet_again.ensures

pub returns-clause-clock : goal.returns-clause-clock
returns-clause-clock c = clock_copy_read
