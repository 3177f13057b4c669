use Rattle.std.proofs.Common.{refl}
use Rattle.listener_laws.proofs.laws.records_are_given_truly.Goals as goal

pub returns-clause-ended : goal.returns-clause-ended
returns-clause-ended c shift p listener records ended h = rw ended (c.headline_holds.ensures shift p listener.plan records h)

pub returns-clause-due : goal.returns-clause-due
returns-clause-due c shift p listener records others going h = (rw going refl, c.fronts_are_true.ensures shift p listener.plan records others h)
