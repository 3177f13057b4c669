use Rattle.sample_schedule.proofs.LawLemmas.{presented-ordered}
use Rattle.sample_schedule.proofs.laws.presented_in_order.Goals as goal

pub returns : goal.returns
returns c clock plan entries = presented-ordered clock plan entries
