use Rattle.avtp_base.proofs.RowLemmas.{read_only, read_spelled}
use Rattle.cvf_format.specs.Cvf.{SpellsCvf, cvf_of, cvf_refusal, cvf_shape}
use Rattle.cvf_format.proofs.CvfLemmas.{cvf_spelled, one_packet}
use Rattle.cvf_format.proofs.reader.read_cvf.Goals as goal

pub returns-clause-spelled : goal.returns-clause-spelled
returns-clause-spelled c =
    let bytes = c.args.pdu.now in
    read_spelled cvf_shape (cvf_refusal bytes) (cvf_of bytes) (λ v. SpellsCvf bytes v) c.read_packet.result c.read_packet.ensures (cvf_spelled bytes)

pub returns-clause-only : goal.returns-clause-only
returns-clause-only c = λ v s.
    let bytes = c.args.pdu.now in
    read_only cvf_shape (cvf_refusal bytes) (cvf_of bytes) v c.read_packet.result c.read_packet.ensures s.accepted (one_packet bytes v s)
