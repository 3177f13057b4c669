use Rattle.avtp_base.proofs.RowLemmas.{spelled_once}
use Rattle.crf_format.specs.Crf.{SpellsCrf, crf_of, crf_refusal}
use Rattle.crf_format.proofs.CrfLemmas.{crf_spelled, one_packet}
use Rattle.crf_format.proofs.laws.one_packet.Goals as goal

pub returns : goal.returns
returns c = λ bytes. spelled_once (crf_refusal bytes) (λ v. SpellsCrf bytes v) (crf_of bytes) (crf_spelled bytes) (λ v s. s.accepted) (one_packet bytes)
