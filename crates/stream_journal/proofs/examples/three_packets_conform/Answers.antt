use Rattle.stream_journal.proofs.Worked.{three_conform}
use Rattle.stream_journal.proofs.examples.three_packets_conform.Goals as goal

pub returns : goal.returns
returns c = three_conform
