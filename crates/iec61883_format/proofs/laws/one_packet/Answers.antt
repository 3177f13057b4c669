use Rattle.avtp_base.proofs.RowLemmas.{spelled_once}
use Rattle.iec61883_format.specs.Iec.{SpellsIec, iec_of, iec_refusal}
use Rattle.iec61883_format.proofs.IecLemmas.{iec_spelled, one_packet}
use Rattle.iec61883_format.proofs.laws.one_packet.Goals as goal

pub returns : goal.returns
returns c = λ bytes. spelled_once (iec_refusal bytes) (λ v. SpellsIec bytes v) (iec_of bytes) (iec_spelled bytes) (λ v s. s.accepted) (one_packet bytes)
