use Rattle.listener.proofs.TrueList.{item_is_true}
use Rattle.listener.proofs.laws.units_are_true.Goals as goal

pub returns : goal.returns
returns c shift p plan records place made unit part h kind there entry = item_is_true shift p plan records place made unit part h kind there entry
