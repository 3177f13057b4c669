use Rattle.avtp_base.proofs.RowLemmas.{read_only, read_spelled}
use Rattle.crf_format.specs.Crf.{IsWritableCrf, SpellsCrf, crf_of, crf_refusal, crf_shape}
use Rattle.crf_format.proofs.CrfLemmas.{crf_spelled, crf_writable, one_packet}
use Rattle.crf_format.proofs.reader.read_crf.Goals as goal

pub returns-clause-spelled : goal.returns-clause-spelled
returns-clause-spelled c =
    let bytes = c.args.pdu.now in
    read_spelled crf_shape (crf_refusal bytes) (crf_of bytes) (λ v. SpellsCrf bytes v) c.read_packet.result c.read_packet.ensures (crf_spelled bytes)

pub returns-clause-only : goal.returns-clause-only
returns-clause-only c = λ v s.
    let bytes = c.args.pdu.now in
    read_only crf_shape (crf_refusal bytes) (crf_of bytes) v c.read_packet.result c.read_packet.ensures s.accepted (one_packet bytes v s)

pub returns-clause-writable : goal.returns-clause-writable
returns-clause-writable c =
    let bytes = c.args.pdu.now in
    read_spelled crf_shape (crf_refusal bytes) (crf_of bytes) IsWritableCrf c.read_packet.result c.read_packet.ensures
    (λ accepted. crf_writable bytes (crf_of bytes) (crf_spelled bytes accepted))
