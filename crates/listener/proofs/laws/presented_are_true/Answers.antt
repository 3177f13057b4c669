use Rattle.listener.proofs.TrueList.{presented_heard, presented_true}
use Rattle.listener.proofs.laws.presented_are_true.Goals as goal

pub returns-clause-origin : goal.returns-clause-origin
returns-clause-origin c = presented_heard

pub returns-clause-packet : goal.returns-clause-packet
returns-clause-packet c = presented_true
