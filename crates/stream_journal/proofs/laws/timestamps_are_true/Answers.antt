use Rattle.stream_journal.proofs.TrueTime.{true_time}
use Rattle.stream_journal.proofs.laws.timestamps_are_true.Goals as goal

pub returns : goal.returns
returns c = true_time
