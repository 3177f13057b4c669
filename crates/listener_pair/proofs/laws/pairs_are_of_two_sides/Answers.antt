use Rattle.listener_pair.proofs.PairLaws.{pairs-are}
use Rattle.listener_pair.proofs.laws.pairs_are_of_two_sides.Goals as goal

pub returns : goal.returns
returns c = pairs-are
