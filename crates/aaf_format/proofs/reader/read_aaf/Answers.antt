use Rattle.avtp_base.proofs.RowLemmas.{read_only, read_spelled}
use Rattle.aaf_format.specs.Aaf.{SpellsAaf, aaf_of, aaf_refusal, aaf_shape}
use Rattle.aaf_format.proofs.AafLemmas.{aaf_spelled, one_packet}
use Rattle.aaf_format.proofs.reader.read_aaf.Goals as goal

pub returns-clause-spelled : goal.returns-clause-spelled
returns-clause-spelled c =
    let bytes = c.args.pdu.now in
    read_spelled aaf_shape (aaf_refusal bytes) (aaf_of bytes) (λ v. SpellsAaf bytes v) c.read_packet.result c.read_packet.ensures (aaf_spelled bytes)

pub returns-clause-only : goal.returns-clause-only
returns-clause-only c = λ v s.
    let bytes = c.args.pdu.now in
    read_only aaf_shape (aaf_refusal bytes) (aaf_of bytes) v c.read_packet.result c.read_packet.ensures s.accepted (one_packet bytes v s)
