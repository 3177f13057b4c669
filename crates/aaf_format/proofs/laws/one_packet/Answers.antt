use Rattle.avtp_base.proofs.RowLemmas.{spelled_once}
use Rattle.aaf_format.specs.Aaf.{SpellsAaf, aaf_of, aaf_refusal}
use Rattle.aaf_format.proofs.AafLemmas.{aaf_spelled, one_packet}
use Rattle.aaf_format.proofs.laws.one_packet.Goals as goal

pub returns : goal.returns
returns c = λ bytes. spelled_once (aaf_refusal bytes) (λ v. SpellsAaf bytes v) (aaf_of bytes) (aaf_spelled bytes) (λ v s. s.accepted) (one_packet bytes)
