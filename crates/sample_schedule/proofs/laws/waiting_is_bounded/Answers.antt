use Rattle.sample_schedule.proofs.LawLemmas.{bounded}
use Rattle.sample_schedule.proofs.laws.waiting_is_bounded.Goals as goal

pub returns : goal.returns
returns c = bounded
