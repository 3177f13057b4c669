use Rattle.cvf_format.proofs.CvfLemmas.{cvf_again}
use Rattle.cvf_format.proofs.laws.packet_again.Goals as goal

pub returns : goal.returns
returns c = λ v trail whole fits. cvf_again v trail whole fits
