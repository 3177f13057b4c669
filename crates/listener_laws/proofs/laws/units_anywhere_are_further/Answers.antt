use Rattle.listener_laws.proofs.UnitsAnywhere.{unit_further_here}
use Rattle.listener_laws.proofs.laws.units_anywhere_are_further.Goals as goal

pub returns : goal.returns
returns c = unit_further_here
