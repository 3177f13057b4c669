use Rattle.stream_journal.proofs.RestartedCopies.{delivered}
use Rattle.stream_journal.proofs.examples.restarted_copies_are_delivered.Goals as goal

pub returns : goal.returns
returns c = delivered
