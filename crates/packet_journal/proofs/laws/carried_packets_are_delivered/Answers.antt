use Rattle.packet_journal.proofs.Carried.{all_delivered}
use Rattle.packet_journal.proofs.laws.carried_packets_are_delivered.Goals as goal

pub returns : goal.returns
returns c = all_delivered c.packet_again.ensures
