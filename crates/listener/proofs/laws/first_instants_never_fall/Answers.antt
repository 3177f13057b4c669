use Rattle.listener.proofs.TrueOrder.{never_falls}
use Rattle.listener.proofs.laws.first_instants_never_fall.Goals as goal

pub returns : goal.returns
returns c = never_falls
