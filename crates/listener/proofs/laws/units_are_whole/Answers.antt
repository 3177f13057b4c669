use Rattle.listener.proofs.UnitWelcome.{unit_made_whole}
use Rattle.listener.proofs.laws.units_are_whole.Goals as goal

pub returns-clause-made : goal.returns-clause-made
returns-clause-made c shift p plan records part from n before front earlier last rest h kind same split u =
    (unit_made_whole shift p plan records part from n before front earlier last rest h kind same split u).listed

pub returns-clause-of_these : goal.returns-clause-of_these
returns-clause-of_these c shift p plan records part from n before front earlier last rest h kind same split u =
    (unit_made_whole shift p plan records part from n before front earlier last rest h kind same split u).of
