use Rattle.stream_journal.proofs.FoundExamples.{nine_known, thirty_three_known}
use Rattle.stream_journal.proofs.examples.packets_are_known.Goals as goal

pub returns-clause-counted : goal.returns-clause-counted
returns-clause-counted c = nine_known

pub returns-clause-covered : goal.returns-clause-covered
returns-clause-covered c = thirty_three_known
