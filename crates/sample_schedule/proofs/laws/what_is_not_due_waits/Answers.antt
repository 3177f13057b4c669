use Rattle.std.proofs.Common.{arith}
use Rattle.sample_schedule.specs.Schedule.{settled}
use Rattle.sample_schedule.proofs.LawLemmas.{bounded-waiting, presented-waiting}
use Rattle.sample_schedule.proofs.laws.what_is_not_due_waits.Goals as goal

pub returns-clause-accepted : goal.returns-clause-accepted
returns-clause-accepted c clock plan entries = presented-waiting clock plan entries (settled plan entries)

pub returns-clause-bounded : goal.returns-clause-bounded
returns-clause-bounded c clock plan entries = bounded-waiting clock plan entries (settled plan entries)

pub returns-clause-unjudged : goal.returns-clause-unjudged
returns-clause-unjudged c plan entries = omega arith
