use Rattle.listener.specs.Laws.{by_clock}
use Rattle.listener.proofs.TrueOnce.{all_agree}
use Rattle.listener.proofs.laws.listeners_agree.Goals as goal

pub returns : goal.returns
returns c shift p plan other records others h g same = all_agree (by_clock plan) p _ _ h.conforming.times
