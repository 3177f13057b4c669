use Rattle.std.proofs.Common.{refl, arith}
use Rattle.std.proofs.lemmas.Int.{ints}
use Rattle.avtp_base.specs.Octets.{bits}
use Rattle.stream_journal.proofs.FoundExamples.{rows_true, two_at_hand}
use Rattle.stream_journal.proofs.examples.points_are_at_hand.Goals as goal

pub returns-clause-at_hand : goal.returns-clause-at_hand
returns-clause-at_hand c = record { all_true = rows_true; at_hand = two_at_hand; covers = record { from = omega (arith, ints); to = omega (arith, ints) } }

pub returns-clause-found : goal.returns-clause-found
unfolding bits
returns-clause-found c = refl
