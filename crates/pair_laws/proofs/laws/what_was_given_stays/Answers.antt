use Rattle.capture_pair.proofs.Stays.{given-stays, given-within}
use Rattle.pair_laws.proofs.laws.what_was_given_stays.Goals as goal

pub returns-clause-within : goal.returns-clause-within
returns-clause-within c = given-within

pub returns-clause-stays : goal.returns-clause-stays
returns-clause-stays c = given-stays
