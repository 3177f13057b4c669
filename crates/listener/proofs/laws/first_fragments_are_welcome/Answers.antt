use Rattle.listener.proofs.UnitWelcome.{unit_welcome}
use Rattle.listener.proofs.laws.first_fragments_are_welcome.Goals as goal

pub returns : goal.returns
returns c shift p plan records from n part earlier last rest = unit_welcome shift p plan records part from n earlier last rest
