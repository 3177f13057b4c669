use Rattle.gateway_laws.proofs.SampleLemmas.{all_kept}
use Rattle.gateway_laws.proofs.laws.samples_are_kept.Goals as goal

pub returns : goal.returns
returns c = all_kept
