use Rattle.pair_laws.proofs.Agreeing.{list-none, list-one}
use Rattle.pair_laws.proofs.Paces.{presented-of-talker}
use Rattle.pair_laws.proofs.laws.batches_of_one_talker_never_differ.Goals as goal

pub returns-clause-list : goal.returns-clause-list
returns-clause-list c shift by p list is h = record { differ = list-none by p list is.times h; one = list-one by p list is.times h }

pub returns-clause-presented : goal.returns-clause-presented
returns-clause-presented c = presented-of-talker
