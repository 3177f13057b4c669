use Rattle.packet_journal.proofs.Carried.{both_delivered}
use Rattle.packet_journal.proofs.laws.records_of_both_are_delivered.Goals as goal

pub returns : goal.returns
returns c = both_delivered c.packet_again.ensures
