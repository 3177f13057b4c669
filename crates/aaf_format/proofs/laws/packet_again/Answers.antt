use Rattle.aaf_format.proofs.AafLemmas.{aaf_again}
use Rattle.aaf_format.proofs.laws.packet_again.Goals as goal

pub returns : goal.returns
returns c = λ v trail whole fits. aaf_again v trail whole fits
