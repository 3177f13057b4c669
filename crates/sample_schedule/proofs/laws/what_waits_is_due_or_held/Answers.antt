use Rattle.sample_schedule.proofs.OrderLemmas.{due-waiting, left-waiting}
use Rattle.sample_schedule.proofs.laws.what_waits_is_due_or_held.Goals as goal

pub returns-clause-due : goal.returns-clause-due
returns-clause-due c = due-waiting

pub returns-clause-held : goal.returns-clause-held
returns-clause-held c = left-waiting
