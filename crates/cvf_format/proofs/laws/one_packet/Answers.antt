use Rattle.avtp_base.proofs.RowLemmas.{spelled_once}
use Rattle.cvf_format.specs.Cvf.{SpellsCvf, cvf_of, cvf_refusal}
use Rattle.cvf_format.proofs.CvfLemmas.{cvf_spelled, one_packet}
use Rattle.cvf_format.proofs.laws.one_packet.Goals as goal

pub returns : goal.returns
returns c = λ bytes. spelled_once (cvf_refusal bytes) (λ v. SpellsCvf bytes v) (cvf_of bytes) (cvf_spelled bytes) (λ v s. s.accepted) (one_packet bytes)
