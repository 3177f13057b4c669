use Rattle.std.proofs.Common.{◌≡◌, None, ℕ, subst, sym, ◌∙◌}
use Rattle.am824_gateway.specs.declared.scan.To.TheVariants.{Am824}
use Rattle.am824_gateway.specs.Scan.{first_fault}
use Rattle.talker.proofs.TalkLemmas.{audio_plan}
use Rattle.talked_headline.specs.Premises.{captured}
use Rattle.talked_headline.proofs.Talked.{stream_is}
use Rattle.talked_gateway.proofs.Clean.{talked_clean}
use Rattle.talked_gateway.proofs.laws.talked_pcm_can_be_turned.Goals as goal

pub returns : goal.returns
returns c plan input places listen sparse l kind none rate most =
    let records = captured plan input places in
    let conforms = c.journal_conforms.ensures.conforms plan input (audio_plan plan l.talked) l.id l.limit in
    let delivers = c.losses_are_delivered.ensures.delivers plan input places None listen.lead l.talked l.id l.limit l.lead in
    subst (λ (id : ℕ). first_fault Am824 id records ≡ None) (sym (l.stream ∙ stream_is plan input))
    (talked_clean sparse plan input listen.lead records kind none rate most l.talked.some_count conforms delivers)
