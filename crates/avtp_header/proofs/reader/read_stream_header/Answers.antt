use Rattle.avtp_base.proofs.RowLemmas.{read_only, read_spelled}
use Rattle.avtp_header.specs.Header.{SpellsHeader, header_of, header_refusal}
use Rattle.avtp_header.proofs.HeaderLemmas.{header_spelled, one_header}
use Rattle.avtp_header.proofs.reader.read_stream_header.Goals as goal

pub returns-clause-spelled : goal.returns-clause-spelled
returns-clause-spelled c =
    let bytes = c.args.pdu.now in
    read_spelled (λ h. h) (header_refusal bytes) (header_of bytes) (λ h. SpellsHeader bytes h) c.read_any.result c.read_any.ensures (header_spelled bytes)

pub returns-clause-only : goal.returns-clause-only
returns-clause-only c = λ h s.
    let bytes = c.args.pdu.now in
    read_only (λ h. h) (header_refusal bytes) (header_of bytes) h c.read_any.result c.read_any.ensures s.accepted (one_header bytes h s)
