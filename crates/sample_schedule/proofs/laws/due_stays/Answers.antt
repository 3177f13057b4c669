use Rattle.sample_schedule.proofs.Growing.{due-grows}
use Rattle.sample_schedule.proofs.laws.due_stays.Goals as goal

pub returns : goal.returns
returns c = due-grows
