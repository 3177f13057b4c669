use Rattle.am824_gateway.proofs.CutLemmas.{all_fit}
use Rattle.am824_gateway.proofs.laws.frames_are_short_enough.Goals as goal

pub returns : goal.returns
returns c = all_fit
