use Rattle.stream_journal.proofs.TrueClock.{true_pairs}
use Rattle.stream_journal.proofs.laws.joined_pairs_are_true.Goals as goal

pub returns : goal.returns
returns c clock p q is seems = true_pairs clock is p q seems
