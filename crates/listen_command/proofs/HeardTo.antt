-- What was printed of a capture that was heard.
use Rattle.std.proofs.Common.{ℕ, List, Option, Some, [], ◌≡◌, ◌++◌, sym, ap, subst, ◌∙◌, append_assoc, take, Ok, Err, None, Result, refl}
use Rattle.std.proofs.lemmas.Grind.{flat_map-append}
use mathlib.Core.List.{IsPrefix}
use Rattle.sample_schedule.specs.declared.shown.Shown.{Shown}
use Rattle.avtp_words.specs.Grammar.{Listening}
use Rattle.avtp_text.specs.Listen.{capture_line, list_lines, shown_lines}
use Rattle.avtp_text.specs.Written.{AppendsPrefix, PrintsPart, written}
use Rattle.avtp_text.proofs.Printing.{part_then, prefix_before, prefix_whole}
use Rattle.capture_io.specs.Formats.{records_in}
use Rattle.listener.specs.declared.plan.ListenPlan.{ListenPlan}
use Rattle.listener.specs.Heard.{counts_of}
use Rattle.listener.specs.Listening.{Begins, ListenState, is_closed}
use Rattle.capture_io.specs.Ends.{CountsFault, end_of}
use Rattle.capture_io.specs.Source.{HasGivenOf, Sourcing, remains_of}
use Rattle.listener.proofs.Fed.{prefix_twice}
use Rattle.avtp_base.specs.Faults.{FailsAt}
use Rattle.capture_io.specs.declared.end.End.{End}
use Rattle.avtp_base.specs.declared.failed.Failed.{Failed}
use Rattle.avtp_base.specs.States.{ShelfState, SinkState}
use Rattle.listener.specs.declared.heard.Counts.{Counts}
use Rattle.run_report.specs.Yield.{GivesPart, Yield}
use Rattle.run_report.specs.Reading.{file_yield}
use Rattle.run_report.specs.Halt.{no_halt}
use Rattle.run_report.proofs.Yields.{part_text}
use Rattle.run_report.specs.Listener.{plan_of}
use Rattle.run_report.specs.declared.status.Status.{Status}
use Rattle.run_report.specs.Outcome.{EndsWith}
use Rattle.run_report.specs.Status.{status_of}
use Rattle.run_report.proofs.DoesFile.{IsReadAndTold}
use Rattle.run_report.proofs.Outcomes.{tells_end}
use Rattle.capture_hearing.specs.declared.hearing.Stage.{Stage}
use Rattle.capture_hearing.specs.Hearing.{IsShown, closed_at, heard_at, read_end}
use Rattle.capture_hearing.specs.Shown.{shown_by}
use Rattle.capture_hearing.proofs.ShownTo.{within, all_heard}
use Rattle.capture_hearing.specs.declared.hearing.Stage.TheVariants.{Ended, Reading, Showing, NoMemory}
use Rattle.capture_hearing.specs.declared.hearing.Heard.TheVariants as far
use Rattle.listen_command.specs.Listen.{heard_yield, listen_report, shown_text, last_line}
use Rattle.listen_command.specs.state.Listen.{HearsItems}

-- ---- what is printed

abbrev pub IsCutYield : Listening → (List Shown → Type 0) → List ℕ → List ℕ → Option (List ℕ) → Option (List ℕ) → Type 0
IsCutYield asked handed name bytes before now = GivesPart handed before now (file_yield (listen_report asked name) asked.listener.limit (Some bytes) no_halt)

pub name_cut : {handed : List Shown → Type 0} {before now : Option (List ℕ)} (asked : Listening) (name bytes : List ℕ) → handed [] → AppendsPrefix before now (capture_line name) → IsCutYield asked handed name bytes before now
name_cut {before = before} {now} asked name bytes none prefix = part_text none _ (prefix_before before now _ _ (prefix_before before now (capture_line name) _ prefix))

-- the text of the first items is a prefix of the text of all items
text_cut : {before now : Option (List ℕ)} (name : List ℕ) (items all : List Shown) (line : List ℕ) → IsPrefix items all → AppendsPrefix before now (shown_text name items) → AppendsPrefix before now (shown_text name all ++ line)
text_cut {before} {now} name items all line first prefix =
    let text : shown_text name items ++ list_lines first.0 ≡ shown_text name all =
    append_assoc (capture_line name) (list_lines items) (list_lines first.0) ∙ ap (λ (t : List ℕ). capture_line name ++ t) (sym (flat_map-append shown_lines items first.0)) ∙ ap (shown_text name) first.1 in
    prefix_before before now (shown_text name all) line (subst (AppendsPrefix before now) text (prefix_before before now (shown_text name items) (list_lines first.0) prefix))

-- whether a text was printed whole or in part, a prefix of it was printed
prefix_of : {h h' : SinkState} {w w' : List ℕ} (result : Result Unit Failed) (text : List ℕ) → PrintsPart h h' w w' result text → AppendsPrefix (written h.held w) (written h'.held w') text
prefix_of {h} {h'} {w} {w'} (Ok o) text prints = prefix_whole (written h.held w) (written h'.held w') text prints.written
prefix_of (Err e) text prints = prints.written

ended_stage : (stage : Stage) (listener : ListenState) (how : End) (counts : Counts) → heard_at stage listener ≡ far.Ended how counts → (stage ≡ Ended how) × (counts ≡ listener.counts)
ended_stage Reading listener how counts is = absurd cc
ended_stage (Showing e) listener how counts is = absurd cc
ended_stage (Ended e) listener how counts is = (cc, cc)
ended_stage NoMemory listener how counts is = absurd cc

-- what `listen` yields if it shows these items of an open capture, and the last line has these counts
abbrev yield_with : Listening → List ℕ → End → Counts → List Shown → Yield
yield_with asked name how counts items = record { text = shown_text name items ++ last_line asked.listener.limit counts how; items = items }

-- the name of an open capture was printed, and then a new listener heard its records
module _ {handed : List Shown → Type 0} {t u : ShelfState} {old new : Sourcing} {settings : ListenPlan} {fresh listener : ListenState} {stage : Stage} {h h' k : SinkState} {w w' v : List ℕ} {ok : Unit} (asked : Listening) (name : List ℕ)
    (begun : Begins settings fresh) (planned : settings ≡ plan_of asked.listener) (named : PrintsPart h h' w w' (Ok ok) (capture_line name)) where
  module _ {result : Result Unit Failed} (hears : HearsItems handed t u old new fresh listener stage h' k w' v result) (closed : is_closed listener ≡ closed_at stage) where
    pub printed : PrintsPart h k w v result (shown_text name hears.items)
    printed = part_then {ok = ok} (capture_line name) (list_lines hears.items) named hears.gives.prints

    plan : listener.plan ≡ plan_of asked.listener
    plan = hears.shows.plan ∙ begun.plan ∙ planned

    shown : (bytes : List ℕ) → HasGivenOf asked.listener.limit bytes t old [] → IsShown stage asked.listener.limit bytes (FailsAt t.reading_faults u.reading_faults) (remains_of u new) new listener hears.items
    shown bytes given = hears.shows.shown asked.listener.limit bytes given begun.stands begun.open

    pub items_cut : (bytes : List ℕ) → HasGivenOf asked.listener.limit bytes t old [] → IsCutYield asked handed name bytes (written h.held w) (written k.held v)
    items_cut bytes given =
        let limit = asked.listener.limit in
        let all = shown_by (plan_of asked.listener) (records_in (take limit bytes)) (end_of limit bytes) in
        let first = subst (λ (p : ListenPlan). IsPrefix hears.items (shown_by p (records_in (take limit bytes)) (end_of limit bytes))) plan (within stage limit bytes _ _ new listener hears.items closed (shown bytes given)) in
        record { text = text_cut name hears.items all _ first (prefix_of result _ printed); front = hears.gives.front; first = prefix_twice hears.gives.front hears.items all hears.gives.first first; items = hears.gives.hands }

  -- the hearing ended, and the last line was printed
  module _ {o : Unit} (hears : HearsItems handed t u old new fresh listener stage h' k w' v (Ok o)) (closed : is_closed listener ≡ closed_at stage) (how : End) (counts : Counts) (over : heard_at stage listener ≡ far.Ended how counts) where
    pub items_counted : CountsFault None (Some how) t.reading_faults u.reading_faults
    items_counted = subst (λ (e : Option End). CountsFault None e t.reading_faults u.reading_faults) (ap read_end (ended_stage stage listener how counts over).0) hears.shows.capture.counted

    pub items_told : {l : SinkState} {u' : List ℕ} {ended : Result Status Failed} → EndsWith (status_of how) k l v u' ended (last_line asked.listener.limit counts how) → (bytes : List ℕ) → HasGivenOf asked.listener.limit bytes t old []
        → IsReadAndTold (listen_report asked name) handed asked.listener.limit bytes (FailsAt t.reading_faults u.reading_faults) how (written h.held w) (written l.held u') ended
    items_told ends bytes given =
        let fault = FailsAt t.reading_faults u.reading_faults in
        let limit = asked.listener.limit in
        let at = ended_stage stage listener how counts over in
        let whole = subst (λ (s : Stage). IsShown s limit bytes fault (remains_of u new) new listener hears.items) at.0 (shown hears closed bytes given) in
        let all = all_heard (plan_of asked.listener) limit bytes how fault (remains_of u new) new listener hears.items (plan hears closed) (closed ∙ ap closed_at at.0) whole in
        let same : yield_with asked name how counts hears.items ≡ heard_yield asked name whole.records how =
        ap (λ (c : Counts). yield_with asked name how c hears.items) (at.1 ∙ all.counted) ∙ ap (λ (items : List Shown). yield_with asked name how (counts_of (plan_of asked.listener) whole.records (shown_by (plan_of asked.listener) whole.records how)) items) all.items_are in
        record { records = whole.records; ends = whole.read; tells = tells_end (shown_text name hears.items) hears.items (refl, same) (printed hears closed).written (subst handed hears.gives.all hears.gives.hands) ends }
