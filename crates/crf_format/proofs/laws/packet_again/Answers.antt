use Rattle.crf_format.proofs.CrfLemmas.{crf_again}
use Rattle.crf_format.proofs.laws.packet_again.Goals as goal

pub returns : goal.returns
returns c = λ v trail whole fits. crf_again v trail whole fits
