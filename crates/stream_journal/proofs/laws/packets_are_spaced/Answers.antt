use Rattle.stream_journal.proofs.Spacing.{rising, spaced}
use Rattle.stream_journal.proofs.laws.packets_are_spaced.Goals as goal

pub returns-clause-rising : goal.returns-clause-rising
returns-clause-rising c j n m is before known = rising j is n m before known

pub returns-clause-apart : goal.returns-clause-apart
returns-clause-apart c j n m is known = spaced j is n m known
