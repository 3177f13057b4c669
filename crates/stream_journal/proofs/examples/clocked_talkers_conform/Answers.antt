use Rattle.stream_journal.proofs.Clocked.{clocked_conform}
use Rattle.stream_journal.proofs.examples.clocked_talkers_conform.Goals as goal

pub returns : goal.returns
returns c = clocked_conform
