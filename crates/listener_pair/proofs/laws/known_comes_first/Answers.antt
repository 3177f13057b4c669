use Rattle.listener_pair.proofs.PairLaws.{known-all, known-front}
use Rattle.listener_pair.proofs.laws.known_comes_first.Goals as goal

pub returns : goal.returns
returns c list = record { first = λ ended_a ended_b. known-front ended_a ended_b list; all = known-all list }
