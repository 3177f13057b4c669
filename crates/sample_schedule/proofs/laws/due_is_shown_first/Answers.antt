use Rattle.sample_schedule.proofs.Growing.{due-first}
use Rattle.sample_schedule.proofs.laws.due_is_shown_first.Goals as goal

pub returns : goal.returns
returns c = due-first
