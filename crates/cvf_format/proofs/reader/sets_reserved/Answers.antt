use Rattle.std.proofs.Common.{ℕ, not, eqb, sym, ap, ◌∙◌}
use Rattle.cvf_format.proofs.NalLemmas.{fragment_reserved}
use Rattle.cvf_format.proofs.reader.sets_reserved.Goals as goal

pub returns-else-sets_shared_reserved : goal.returns-else-sets_shared_reserved
returns-else-sets_shared_reserved c =
    let unset = sym c.sets_shared_reserved-in-First.ensures ∙ c.if-sets_shared_reserved.false in
    let same = fragment_reserved c.args.part c.args.pdu.now c.in-First.is unset in
    ap (λ (n : ℕ). not (eqb n 0)) c.bits_at.ensures ∙ sym same
