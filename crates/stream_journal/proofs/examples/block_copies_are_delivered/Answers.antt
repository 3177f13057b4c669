use Rattle.stream_journal.proofs.Blocks.{delivered}
use Rattle.stream_journal.proofs.examples.block_copies_are_delivered.Goals as goal

pub returns-clause-delivered : goal.returns-clause-delivered
returns-clause-delivered c = delivered
