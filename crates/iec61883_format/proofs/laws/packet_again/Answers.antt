use Rattle.iec61883_format.proofs.IecLemmas.{iec_again}
use Rattle.iec61883_format.proofs.laws.packet_again.Goals as goal

pub returns : goal.returns
returns c = λ v trail whole fits. iec_again v trail whole fits
