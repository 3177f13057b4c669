use Rattle.avtp_base.proofs.RowLemmas.{read_only, read_spelled}
use Rattle.iec61883_format.specs.Iec.{IsWritableIec, SpellsIec, iec_of, iec_refusal, iec_shape}
use Rattle.iec61883_format.proofs.IecLemmas.{iec_spelled, iec_writable, one_packet}
use Rattle.iec61883_format.proofs.reader.read_iec.Goals as goal

pub returns-clause-spelled : goal.returns-clause-spelled
returns-clause-spelled c =
    let bytes = c.args.pdu.now in
    read_spelled iec_shape (iec_refusal bytes) (iec_of bytes) (λ v. SpellsIec bytes v) c.read_packet.result c.read_packet.ensures (iec_spelled bytes)

pub returns-clause-only : goal.returns-clause-only
returns-clause-only c = λ v s.
    let bytes = c.args.pdu.now in
    read_only iec_shape (iec_refusal bytes) (iec_of bytes) v c.read_packet.result c.read_packet.ensures s.accepted (one_packet bytes v s)

pub returns-clause-writable : goal.returns-clause-writable
returns-clause-writable c =
    let bytes = c.args.pdu.now in
    read_spelled iec_shape (iec_refusal bytes) (iec_of bytes) IsWritableIec c.read_packet.result c.read_packet.ensures
    (λ accepted. iec_writable bytes (iec_of bytes) (iec_spelled bytes accepted))
