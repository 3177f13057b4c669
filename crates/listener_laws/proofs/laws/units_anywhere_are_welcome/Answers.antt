use Rattle.listener_laws.proofs.UnitsAnywhere.{unit_welcome_here}
use Rattle.listener_laws.proofs.laws.units_anywhere_are_welcome.Goals as goal

pub returns : goal.returns
returns c = unit_welcome_here
