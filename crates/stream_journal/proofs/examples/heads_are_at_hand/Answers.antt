use Rattle.std.proofs.Common.{refl}
use Rattle.stream_journal.proofs.FoundExamples.{all_true, nine_at_hand, nine_expected, nine_unstamped}
use Rattle.stream_journal.proofs.examples.heads_are_at_hand.Goals as goal

pub returns-clause-at_hand : goal.returns-clause-at_hand
returns-clause-at_hand c = record { unstamped = nine_unstamped; expected = nine_expected; all_true = all_true; at_hand = nine_at_hand }

pub returns-clause-last : goal.returns-clause-last
returns-clause-last c = refl

pub returns-clause-dropped : goal.returns-clause-dropped
returns-clause-dropped c = refl
