use Rattle.listener.proofs.Due.{due_first, due_stays}
use Rattle.listener.proofs.laws.what_is_due_stays.Goals as goal

pub returns-clause-longer : goal.returns-clause-longer
returns-clause-longer c = due_stays

pub returns-clause-first : goal.returns-clause-first
returns-clause-first c = due_first
