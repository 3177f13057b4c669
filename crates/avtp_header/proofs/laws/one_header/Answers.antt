use Rattle.avtp_base.proofs.RowLemmas.{spelled_once}
use Rattle.avtp_header.specs.Header.{SpellsHeader, header_of, header_refusal}
use Rattle.avtp_header.proofs.HeaderLemmas.{header_spelled, one_header}
use Rattle.avtp_header.proofs.laws.one_header.Goals as goal

pub returns : goal.returns
returns c = λ bytes. spelled_once (header_refusal bytes) (λ h. SpellsHeader bytes h) (header_of bytes) (header_spelled bytes) (λ h s. s.accepted) (one_header bytes)
