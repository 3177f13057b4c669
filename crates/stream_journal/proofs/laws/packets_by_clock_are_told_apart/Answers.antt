use Rattle.stream_journal.proofs.ByClock.{told_apart}
use Rattle.stream_journal.proofs.laws.packets_by_clock_are_told_apart.Goals as goal

pub returns : goal.returns
returns c = told_apart
