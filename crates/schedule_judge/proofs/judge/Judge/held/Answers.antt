use Rattle.schedule_judge.proofs.JudgeLemmas.{held-so}
use Rattle.schedule_judge.proofs.judge.Judge.held.Goals as goal

pub returns-clause-accepted : goal.returns-clause-accepted
returns-clause-accepted c clock entries given st opened idle = held-so clock entries given _ st opened idle
