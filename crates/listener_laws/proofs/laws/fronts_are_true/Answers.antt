use Rattle.listener_laws.proofs.Fronts.{true_front}
use Rattle.listener_laws.proofs.laws.fronts_are_true.Goals as goal

pub returns : goal.returns
returns c = true_front
