use Rattle.std.proofs.Common.{List, sym, subst}
use Rattle.sample_schedule.specs.declared.shown.Shown.{Shown}
use Rattle.listener.specs.Heard.{due_of, shown_of}
use Rattle.listener.specs.Laws.{presented_of}
use Rattle.listener.proofs.Due.{due_first}
use Rattle.talker.proofs.TalkLemmas.{audio_plan}
use Rattle.talked_headline.specs.Premises.{captured}
use Rattle.gateway_laws.proofs.Shaped.{due_shaped, shown_shaped}
use Rattle.am824_gateway.specs.Scan.{shape_in}
use Rattle.talked_gateway.proofs.Skipped.{AreApart, front_apart, shown_apart, skips_none}
use Rattle.talked_gateway.proofs.laws.nothing_talked_is_skipped.Goals as goal

pub returns-clause-shown : goal.returns-clause-shown
returns-clause-shown c to plan input places listen l none clean =
    let records = captured plan input places in
    let conforms = c.journal_conforms.ensures.conforms plan input (audio_plan plan l.talked) l.id l.limit in
    skips_none to (shape_in listen.stream records) (presented_of (shown_of listen records)) (shown_shaped to listen records clean)
    (shown_apart plan input listen records l.talked l.limit conforms none (c.talked_keeps_headline.ensures plan input places listen l))

pub returns-clause-due : goal.returns-clause-due
returns-clause-due c to plan input places listen l none clean =
    let records = captured plan input places in
    let conforms = c.journal_conforms.ensures.conforms plan input (audio_plan plan l.talked) l.id l.limit in
    let apart = shown_apart plan input listen records l.talked l.limit conforms none (c.talked_keeps_headline.ensures plan input places listen l) in
    let first = due_first listen records in
    skips_none to (shape_in listen.stream records) (presented_of (due_of listen records)) (due_shaped to listen records clean)
    (front_apart (due_of listen records) first.0 (subst (λ (s : List Shown). AreApart (presented_of s)) (sym first.1) apart))
