use Rattle.sample_schedule.proofs.LawLemmas.{presented-distinct}
use Rattle.sample_schedule.proofs.laws.copies_are_not_presented.Goals as goal

pub returns : goal.returns
returns c clock plan entries = presented-distinct clock plan entries
