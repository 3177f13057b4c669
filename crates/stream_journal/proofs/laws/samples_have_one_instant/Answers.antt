use Rattle.stream_journal.proofs.OneInstant.{one_instant}
use Rattle.stream_journal.proofs.laws.samples_have_one_instant.Goals as goal

pub returns : goal.returns
returns c j by_clock n k x y is known a b = one_instant j is by_clock n k x y known a b
