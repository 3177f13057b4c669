-- The run of `agree`.
use Rattle.std.proofs.Common.{◌≡◌, ℕ, List, Option, Some, None, inl, refl, sym, subst, [], ◌∷◌, inr, ◌∙◌, Result, ◌++◌, Ok, Err, ◌≢◌, true, false, zero, suc, arith, ℤ, length, take, ap}
use Rattle.std.specs.Prelude.{IsSome, ◌==◌, if◌then◌else◌, Contains}
use Rattle.avtp_base.specs.declared.failed.FaultPlace.{FaultPlace}
use Rattle.avtp_base.specs.Files.{Files}
use Rattle.avtp_words.specs.Grammar.{Agreeing}
use Rattle.avtp_text.specs.Notices.{read_fault_line}
use Rattle.avtp_base.specs.declared.failed.Failed.{Failed}
use Rattle.avtp_base.specs.States.{Asks, ShelfState, SinkState}
use Rattle.avtp_text.specs.Written.{AppendsPrefix, written}
use Rattle.avtp_text.proofs.Printing.{prefix_before, prefix_after}
use Rattle.listener_pair.specs.Differences.{differences, counts_of}
use Rattle.capture_io.proofs.Ending.{ends_weaker}
use Rattle.avtp_base.specs.Told.{Appends}
use Rattle.avtp_base.proofs.Told.{Appends-trans}
use Rattle.capture_io.specs.declared.end.End.{End}
use Rattle.avtp_base.specs.declared.failed.OpenFault.{OpenFault}
use Rattle.avtp_base.specs.Faults.{FailsAt, HasOneMore, ReadingFaults}
use Rattle.capture_io.specs.Source.{Sourcing, slot_of}
use Rattle.capture_io.specs.Reads.{OnlyReads}
use Rattle.avtp_base.proofs.Files.{KeepsFiles-trans}
use Rattle.capture_io.specs.Ends.{end_of}
use Rattle.capture_io.specs.Formats.{records_in}
use Rattle.packet_journal.specs.Packets.{PacketJournal}
use Rattle.listener.specs.Laws.{HearsTalker}
use Rattle.listener_pair.specs.declared.difference.Difference.{Difference}
use Rattle.pair_laws.proofs.Agreeing.{captures-none, captures-one}
use Rattle.pair_laws.proofs.Found.{captures-paired}
use Rattle.capture_io.specs.declared.end.End.TheVariants as end
use Rattle.avtp_base.specs.declared.failed.OpenFault.TheVariants as open_fault
use Rattle.run_report.specs.declared.status.Status.{Status}
use Rattle.run_report.specs.Outcome.{TellsRun, EndsWith, TellsYield, CountsReading, EndsUnopened, KeepsSink}
use Rattle.run_report.specs.Yield.{HandsNothing, says, Gives, Yield}
use Rattle.run_report.specs.RunReport.{ends_unread, run_of}
use Rattle.run_report.specs.Halt.{no_halt, not_opened, stopped_after}
use Rattle.run_report.proofs.OneFile.{stopped_at}
use Rattle.capture_io.specs.Ends.{EndsAt}
use Rattle.run_report.proofs.Outcomes.{IsCut, tells_cut, tells_end, missing_none, tells_last, yield_telling, counts_unopened, unopened_own, unopened_undone, counts_by, sink_then, counts_memory, sink_ok, counts_failed, sink_err}
use Rattle.run_report.proofs.Runs.{run_asked, run_cut}
use Rattle.run_report.proofs.Yields.{part_text, part_whole, part_none}
use Rattle.run_report.specs.Reading.{is_of_reading, DoesReading, IsReadingStatus}
use Rattle.run_report.specs.Endings.{IsUnopened}
use Rattle.run_report.specs.Listener.{plan_of}
use Rattle.run_report.proofs.Files.{shown_before}
use Rattle.run_report.proofs.Leaving.{own_as}
use Rattle.run_report.specs.declared.status.Status.TheVariants as status
use Rattle.agree_command.specs.Agree.{text_without_a, text_without_b, agreed, compared_status, agree_report, compared_text, difference_lines, merged_in, AgreeYields, agree_status, last_lines, HasAgreement}
use Rattle.agree_command.specs.state.Comparing.{IsCutIn, HasCompared, Refuses, RefusesTwo, AreTold, ClosesTwo, Compares, ComparesTo, OpensTwo}
use Rattle.agree_command.specs.state.Comparing.IsCutIn.{in_a, in_b}
use Rattle.agree_command.specs.state.Agree.{EndsWithLines}
use Rattle.agree_command.specs.state.Comparing.RefusesTwo.{first, second}
use Rattle.agree_command.specs.declared.comparing.Compared.{Compared}
use Rattle.agree_command.specs.declared.comparing.Ended.{Ended}
use Rattle.agree_command.specs.declared.comparing.Comparing.{Comparing}
use Rattle.agree_command.proofs.TwoFiles.{both_closed}
use Rattle.agree_command.specs.declared.comparing.Compared.TheVariants as ended_as

-- ---- the possible outcomes

-- `agree` makes no capture
makes_none : (asked : Agreeing) (a b : Option (List ℕ)) → let report = agree_report asked a b no_halt in run_of report.came report.ended report.yields None ≡ report
makes_none asked None b = refl
makes_none asked (Some x) None = refl
makes_none asked (Some x) (Some y) = refl

-- `agree` ends with a read fault if A is not opened
unread_a : (asked : Agreeing) (a b : Option (List ℕ)) → agree_report asked a b (not_opened zero) ≡ ends_unread (asked.a ∷ [])
unread_a asked None b = refl
unread_a asked (Some x) b = refl

-- `agree` ends with a read fault if A is opened and B is not
unread_b : (asked : Agreeing) (a b : Option (List ℕ)) → IsSome a → (agree_report asked a None no_halt ≡ ends_unread (asked.a ∷ asked.b ∷ [])) × (agree_report asked a b (not_opened (suc zero)) ≡ ends_unread (asked.a ∷ asked.b ∷ []))
unread_b asked None b some = absurd cc
unread_b asked (Some x) None some = (refl, refl)
unread_b asked (Some x) (Some y) some = (refl, refl)

module _ (asked : Agreeing) (files : Files) (fault : FaultPlace → Type 0) where
  -- A was not opened
  without_a : IsUnopened files fault asked.a → AgreeYields asked files fault (asked.a ∷ []) status.ReadFault (says read_fault_line)
  without_a (inl is) = (no_halt, tt, rw is refl)
  without_a (inr f) = (not_opened zero, f, sym (unread_a asked (files asked.a) (files asked.b)))

  -- A was opened, and B was not
  without_b : IsSome (files asked.a) → IsUnopened files fault asked.b → AgreeYields asked files fault (asked.a ∷ asked.b ∷ []) status.ReadFault (says read_fault_line)
  without_b some (inl is) = (no_halt, tt, sym (ap (λ (b : Option (List ℕ)). agree_report asked (files asked.a) b no_halt) is ∙ (unread_b asked (files asked.a) None some).0))
  without_b some (inr f) = (not_opened (suc zero), f, sym (unread_b asked (files asked.a) (files asked.b) some).1)

  -- both files were opened, and each was read to its end, to a refused field or to the limit
  compared : (x y : List ℕ) → files asked.a ≡ Some x → files asked.b ≡ Some y → AgreeYields asked files fault (asked.a ∷ asked.b ∷ []) (compared_status asked x y) (says (compared_text asked x y))
  compared x y is_a is_b = (no_halt, tt, rw (is_a, is_b) refl)

  -- a read fault occurred after a prefix of A
  cut_a : (x y prefix : List ℕ) → files asked.a ≡ Some x → files asked.b ≡ Some y → EndsAt asked.listener.limit (Some x) fault end.ReadFault prefix
      → AgreeYields asked files fault (asked.a ∷ asked.b ∷ []) status.ReadFault (says (text_without_a asked prefix y))
  cut_a x y prefix is_a is_b ends =
      let at = stopped_at asked.listener.limit x prefix fault ends in
      (stopped_after zero (length prefix), rw is_a at.1, rw (is_a, is_b) (ap (λ (p : List ℕ). agreed asked status.ReadFault (text_without_a asked p y)) at.0))

  -- a read fault occurred after a prefix of B
  cut_b : (x y prefix : List ℕ) → files asked.a ≡ Some x → files asked.b ≡ Some y → EndsAt asked.listener.limit (Some y) fault end.ReadFault prefix
      → AgreeYields asked files fault (asked.a ∷ asked.b ∷ []) status.ReadFault (says (text_without_b asked x prefix))
  cut_b x y prefix is_a is_b ends =
      let at = stopped_at asked.listener.limit y prefix fault ends in
      (stopped_after (suc zero) (length prefix), rw is_b at.1, rw (is_a, is_b) (ap (λ (p : List ℕ). agreed asked status.ReadFault (text_without_b asked x p)) at.0))

-- ---- both files were opened

pub agree_cut : (asked : Agreeing) (all : Files) (fault : FaultPlace → Type 0) {s t : ShelfState} {before now : Option (List ℕ)} {result : Result Status Failed} (x y : List ℕ) → all asked.a ≡ Some x → all asked.b ≡ Some y → IsCut result
    → AppendsPrefix before now (difference_lines (differences (merged_in asked x y))) → Asks (asked.a ∷ asked.b ∷ []) s t → TellsRun (AgreeYields asked all fault) HandsNothing s t before now result
agree_cut asked all fault {s} {t} {before} {now} {result} x y is_a is_b cut prefix asks =
    run_asked (AgreeYields asked all fault) (asked.a ∷ asked.b ∷ [])
    (tells_cut (compared_status asked x y) (says (compared_text asked x y)) (compared asked all fault x y is_a is_b) cut (part_text refl (says (compared_text asked x y)) (prefix_before before now _ _ prefix))) asks

pub agree_fault : (asked : Agreeing) (all : Files) (fault fault' : FaultPlace → Type 0) {s t : ShelfState} {before : Option (List ℕ)} {h h' : SinkState} {w w' : List ℕ} {result : Result Status Failed} (x y : List ℕ) → all asked.a ≡ Some x → all asked.b ≡ Some y → ((place : FaultPlace) → fault place → fault' place)
    → IsCutIn asked x y fault before (written h.held w) → EndsWith status.ReadFault h h' w w' result read_fault_line → Asks (asked.a ∷ asked.b ∷ []) s t
    → TellsRun (AgreeYields asked all fault') HandsNothing s t before (written h'.held w') result
agree_fault asked all fault fault' x y is_a is_b cause (in_a prefix ends lines) last asks =
    run_asked (AgreeYields asked all fault') (asked.a ∷ asked.b ∷ [])
    (tells_end _ [] (cut_a asked all fault' x y prefix is_a is_b (ends_weaker asked.listener.limit (Some x) fault fault' end.ReadFault prefix cause ends)) lines refl last) asks
agree_fault asked all fault fault' x y is_a is_b cause (in_b prefix ends lines) last asks =
    run_asked (AgreeYields asked all fault') (asked.a ∷ asked.b ∷ [])
    (tells_end _ [] (cut_b asked all fault' x y prefix is_a is_b (ends_weaker asked.listener.limit (Some y) fault fault' end.ReadFault prefix cause ends)) lines refl last) asks

lines_end : {Outcome : Status → Yield → Type 0} {before : Option (List ℕ)} {h h' : SinkState} {w w' : List ℕ} {result : Result Status Failed} (limit : ℕ) (ended : Ended) (text : List ℕ)
    → Outcome (agree_status ended.counts.differ ended.a ended.b) (says (text ++ last_lines limit ended.counts ended.a ended.b)) → Appends before (written h.held w) text → EndsWithLines limit ended h h' w w' result
    → TellsYield Outcome HandsNothing before (written h'.held w') result
lines_end {before = before} {h} {h'} {w} {w'} {result = Ok s} limit ended text outcome start last =
    let lines = last_lines limit ended.counts ended.a ended.b in
    let given : Gives HandsNothing before (written h'.held w') (says (text ++ lines)) = record { text = Appends-trans before (written h.held w) (written h'.held w') text lines start last.written; items = refl } in
    record { ended = agree_status ended.counts.differ ended.a ended.b; yields = says (text ++ lines); outcome = outcome; whole = λ memory write. (last.status, given); part = part_whole (says (text ++ lines)) given }
lines_end {before = before} {h} {h'} {w} {w'} {result = Err e} limit ended text outcome start last =
    let lines = last_lines limit ended.counts ended.a ended.b in
    record { ended = agree_status ended.counts.differ ended.a ended.b; yields = says (text ++ lines); outcome = outcome; whole = tt; part = part_text refl (says (text ++ lines)) (prefix_after before (written h.held w) (written h'.held w') text lines start last.written) }

pub agree_told : (asked : Agreeing) (all : Files) (fault : FaultPlace → Type 0) {s t : ShelfState} {before : Option (List ℕ)} {h h' : SinkState} {w w' : List ℕ} {result : Result Status Failed} {ended : Ended} (x y : List ℕ) → all asked.a ≡ Some x → all asked.b ≡ Some y
    → HasCompared asked x y ended before (written h.held w) → EndsWithLines asked.listener.limit ended h h' w w' result → Asks (asked.a ∷ asked.b ∷ []) s t
    → TellsRun (AgreeYields asked all fault) HandsNothing s t before (written h'.held w') result
agree_told asked all fault {ended = ended} x y is_a is_b has last asks =
    run_asked (AgreeYields asked all fault) (asked.a ∷ asked.b ∷ [])
    (lines_end asked.listener.limit ended (difference_lines (differences (merged_in asked x y))) (rw (has.counts, has.a, has.b) (compared asked all fault x y is_a is_b)) has.lines last) asks

-- ---- statuses

reads_status : (found : ℕ) (a b : End) → a ≢ end.ReadFault → b ≢ end.ReadFault → (is_of_reading (agree_status found a b) ≡ true) × (agree_status found a b ≢ status.ReadFault)
reads_status found end.Whole end.Whole p q =
    elim (found == 0) as (λ b. (is_of_reading (if b then status.Done else status.Findings) ≡ true) × ((if b then status.Done else status.Findings) ≢ status.ReadFault)) [ true ↦ (refl, λ e. cc) | false ↦ (refl, λ e. cc) ]
reads_status found end.Whole (end.Refused r) p q = (refl, λ e. cc)
reads_status found end.Whole end.ReadFault p q = absurd (q refl)
reads_status found end.Whole end.Limit p q = (refl, λ e. cc)
reads_status found (end.Refused r) b p q = (refl, λ e. cc)
reads_status found end.ReadFault b p q = absurd (p refl)
reads_status found end.Limit b p q = (refl, λ e. cc)

-- ---- a file that could not be opened

among : {names more : List (List ℕ)} {files : Option Files} {before after : ReadingFaults} {result : Result Status Failed} → ((name : List ℕ) → Contains names name → Contains more name) → CountsReading names files before after result → CountsReading more files before after result
among within counts = record {
  never_falls = counts.never_falls;
  fault = λ is. elim (counts.fault is) [ inl rose ↦ inl rose | inr one ↦ inr (record { name = one.name; one = within one.name one.one; missing = one.missing }) ];
  quiet = counts.quiet;
}

among_first : (a b name : List ℕ) → Contains (a ∷ []) name → Contains (a ∷ b ∷ []) name
among_first a b name (zero, less, is) = (0, omega arith, is)
among_first a b name (suc n, less, is) = absurd (omega arith)

among_second : (a b name : List ℕ) → Contains (b ∷ []) name → Contains (a ∷ b ∷ []) name
among_second a b name (zero, less, is) = (1, omega arith, is)
among_second a b name (suc n, less, is) = absurd (omega arith)

unopened_run : (asked : Agreeing) (all : Files) {s t : ShelfState} {h h' : SinkState} {w w' : List ℕ} {result : Result Status Failed} (fault : OpenFault) (name : List ℕ) (came : List (List ℕ)) → s.files ≡ Some all → Refuses s t name fault → EndsUnopened fault h h' w w' result
    → (IsUnopened all (FailsAt s.reading_faults t.reading_faults) name → AgreeYields asked all (FailsAt s.reading_faults t.reading_faults) came status.ReadFault (says read_fault_line)) → Asks came s t
    → TellsRun (AgreeYields asked all (FailsAt s.reading_faults t.reading_faults)) HandsNothing s t (written h.held w) (written h'.held w') result
unopened_run asked all {s} {t} {h} {h'} {w} {w'} {result} open_fault.Memory name came told refuses ends outcome asks =
    let left = ends.memory refl in
    let report = agree_report asked (all asked.a) (all asked.b) no_halt in
    let yields = report.yields in
    run_cut (AgreeYields asked all (FailsAt s.reading_faults t.reading_faults)) report.came report.ended yields (no_halt, tt, makes_none asked (all asked.a) (all asked.b)) (subst IsCut (sym left.0) (inl refl)) (part_none refl yields left.1)
unopened_run asked all {s} {t} {h} {h'} {w} {w'} open_fault.Missing name came told refuses ends outcome asks =
    run_asked (AgreeYields asked all (FailsAt s.reading_faults t.reading_faults)) came
    (tells_last (yield_telling (written h.held w) (written h'.held w') read_fault_line refl) (outcome (inl (missing_none s.files name all told (refuses.missing refl)))) (ends.other (λ e. cc))) asks
unopened_run asked all {s} {t} {h} {h'} {w} {w'} open_fault.Failed name came told refuses ends outcome asks =
    run_asked (AgreeYields asked all (FailsAt s.reading_faults t.reading_faults)) came
    (tells_last (yield_telling (written h.held w) (written h'.held w') read_fault_line refl) (outcome (inr (refuses.counted.failed refl))) (ends.other (λ e. cc))) asks

pub agree_unopened : {s t : ShelfState} {h h' : SinkState} {w w' : List ℕ} {result : Result Status Failed} (asked : Agreeing) (fault : OpenFault) → RefusesTwo s t asked.a asked.b fault → EndsUnopened fault h h' w w' result
    → DoesReading (AgreeYields asked) (asked.a ∷ asked.b ∷ []) HandsNothing s t h h' w w' result
agree_unopened {s} {t} {result = result} asked fault (first only refuses) ends = record {
  tells = λ all told still. unopened_run asked all fault asked.a (asked.a ∷ []) told refuses ends (without_a asked all (FailsAt s.reading_faults t.reading_faults)) only.asked;
  count = 1;
  within = omega arith;
  all = λ done. absurd (unopened_undone fault result ends done);
  keeps = only;
  counts = among (among_first asked.a asked.b) (counts_unopened {T = Sourcing} fault s.reading_faults t.reading_faults s.files asked.a refuses.counted refuses.missing ends);
  own = unopened_own fault ends;
  sink = ends.sink;
}
agree_unopened {s} {t} {result = result} asked fault (second there only refuses) ends = record {
  tells = λ all told still. unopened_run asked all fault asked.b (asked.a ∷ asked.b ∷ []) told refuses ends (without_b asked all (FailsAt s.reading_faults t.reading_faults) (there all told)) only.asked;
  count = 2;
  within = omega arith;
  all = λ done. refl;
  keeps = only;
  counts = among (among_second asked.a asked.b) (counts_unopened {T = Sourcing} fault s.reading_faults t.reading_faults s.files asked.b refuses.counted refuses.missing ends);
  own = unopened_own fault ends;
  sink = ends.sink;
}

-- ---- the command, over two files that were opened

module _ {s t u v : ShelfState} {c c' : Comparing} {h mid : SinkState} {w m : List ℕ} {compared : Result Compared Failed} (asked : Agreeing) (opened : OpensTwo s t asked (Ok c))
    (compares : Compares t u c c' h mid w m compared) (closes : ClosesTwo u v (slot_of c'.a.source) (slot_of c'.b.source)) where
  both_read : OnlyReads s v (asked.a ∷ asked.b ∷ [])
  both_read = both_closed opened.opened compares.reads.two (subst (λ (k : ℕ). ClosesTwo u v k (slot_of c.b.source)) compares.reads.slot_a (subst (ClosesTwo u v (slot_of c'.a.source)) compares.reads.slot_b closes))

  fails_over : (place : FaultPlace) → FailsAt t.reading_faults u.reading_faults place → FailsAt s.reading_faults v.reading_faults place
  fails_over place fails = subst (λ (faults : ReadingFaults). FailsAt faults v.reading_faults place) opened.opened.reading (subst (λ (faults : ReadingFaults). FailsAt t.reading_faults faults place) (sym closes.reading) fails)

  once_over : HasOneMore t.reading_faults u.reading_faults → HasOneMore s.reading_faults v.reading_faults
  once_over once = subst (λ (faults : ReadingFaults). HasOneMore faults v.reading_faults) opened.opened.reading (subst (HasOneMore t.reading_faults) (sym closes.reading) once)

  told_over : (all : Files) → s.files ≡ Some all → IsSome v.files → (at : AreTold asked all t c) × ComparesTo asked at.bytes_a at.bytes_b (FailsAt t.reading_faults u.reading_faults) (written h.held w) (written mid.held m) compared
  told_over all told still =
      let at = opened.told all told (shown_before t.files v.files (KeepsFiles-trans t.files u.files v.files compares.reads.two.files closes.files) still) in
      (at, compares.told asked at.bytes_a at.bytes_b at.unread)

  does_over : {h' : SinkState} {w' : List ℕ} {result : Result Status Failed}
      → ((all : Files) → s.files ≡ Some all → IsSome v.files → TellsRun (AgreeYields asked all (FailsAt s.reading_faults v.reading_faults)) HandsNothing s v (written h.held w) (written h'.held w') result)
      → CountsReading (asked.a ∷ asked.b ∷ []) s.files s.reading_faults v.reading_faults result → IsReadingStatus result → KeepsSink h h' result → DoesReading (AgreeYields asked) (asked.a ∷ asked.b ∷ []) HandsNothing s v h h' w w' result
  does_over tells counts own sink = record { tells = tells; count = 2; within = omega arith; all = λ done. refl; keeps = both_read; counts = counts; own = own; sink = sink }

pub agree_ends : {s t u v : ShelfState} {c c' : Comparing} {h mid h' : SinkState} {w m w' : List ℕ} {result : Result Status Failed} {ended : Ended} (asked : Agreeing) → OpensTwo s t asked (Ok c)
    → Compares t u c c' h mid w m (Ok (ended_as.Ended ended)) → ClosesTwo u v (slot_of c'.a.source) (slot_of c'.b.source)
    → EndsWithLines asked.listener.limit ended mid h' m w' result → DoesReading (AgreeYields asked) (asked.a ∷ asked.b ∷ []) HandsNothing s v h h' w w' result
agree_ends {s} {t} {u} {v} {result = result} {ended} asked opened compares closes last =
    let counted = compares.counted in
    let status = agree_status ended.counts.differ ended.a ended.b in
    let ends = reads_status ended.counts.differ ended.a ended.b counted.0 counted.1 in
    let same : v.reading_faults ≡ s.reading_faults = closes.reading ∙ counted.2 ∙ opened.opened.reading in
    does_over asked opened compares closes
    (λ all told still. let so = told_over asked opened compares closes all told still in agree_told asked all (FailsAt s.reading_faults v.reading_faults) so.0.bytes_a so.0.bytes_b so.0.is_a so.0.is_b so.1 last (both_read asked opened compares closes).asked)
    (counts_by status result (both_read asked opened compares closes).reading (inl (ends.1, same)) last.status) (own_as result status ends.0 last.status) (sink_then compares.sink last.sink)

pub agree_stops : {s t u v : ShelfState} {c c' : Comparing} {h mid h' : SinkState} {w m w' : List ℕ} {result : Result Status Failed} (asked : Agreeing) → OpensTwo s t asked (Ok c)
    → Compares t u c c' h mid w m (Ok ended_as.Fault) → ClosesTwo u v (slot_of c'.a.source) (slot_of c'.b.source)
    → EndsWith status.ReadFault mid h' m w' result read_fault_line → DoesReading (AgreeYields asked) (asked.a ∷ asked.b ∷ []) HandsNothing s v h h' w w' result
agree_stops {s} {t} {u} {v} {result = result} asked opened compares closes last =
    does_over asked opened compares closes
    (λ all told still. let so = told_over asked opened compares closes all told still in agree_fault asked all (FailsAt t.reading_faults u.reading_faults) (FailsAt s.reading_faults v.reading_faults) so.0.bytes_a so.0.bytes_b so.0.is_a so.0.is_b (fails_over asked opened compares closes) so.1 last (both_read asked opened compares closes).asked)
    (counts_by status.ReadFault result (both_read asked opened compares closes).reading (inr (refl, once_over asked opened compares closes compares.counted)) last.status) (own_as result status.ReadFault refl last.status) (sink_then compares.sink last.sink)

pub agree_no_memory : {s t u v : ShelfState} {c c' : Comparing} {h mid : SinkState} {w m : List ℕ} (asked : Agreeing) → OpensTwo s t asked (Ok c)
    → Compares t u c c' h mid w m (Ok ended_as.NoMemory) → ClosesTwo u v (slot_of c'.a.source) (slot_of c'.b.source) → DoesReading (AgreeYields asked) (asked.a ∷ asked.b ∷ []) HandsNothing s v h mid w m (Ok status.Memory)
agree_no_memory {s} {v = v} asked opened compares closes =
    does_over asked opened compares closes
    (λ all told still. let so = told_over asked opened compares closes all told still in agree_cut asked all (FailsAt s.reading_faults v.reading_faults) so.0.bytes_a so.0.bytes_b so.0.is_a so.0.is_b (inl refl) so.1 (both_read asked opened compares closes).asked)
    (counts_memory (Ok status.Memory) (both_read asked opened compares closes).reading refl) refl (sink_ok status.Memory compares.sink)

pub agree_failed : {s t u v : ShelfState} {c c' : Comparing} {h mid : SinkState} {w m : List ℕ} {e : Failed} (e' : Failed) (asked : Agreeing) → OpensTwo s t asked (Ok c)
    → Compares t u c c' h mid w m (Err e) → ClosesTwo u v (slot_of c'.a.source) (slot_of c'.b.source) → DoesReading (AgreeYields asked) (asked.a ∷ asked.b ∷ []) HandsNothing s v h mid w m (Err e')
agree_failed {s} {v = v} e' asked opened compares closes =
    does_over asked opened compares closes
    (λ all told still. let so = told_over asked opened compares closes all told still in agree_cut asked all (FailsAt s.reading_faults v.reading_faults) so.0.bytes_a so.0.bytes_b so.0.is_a so.0.is_b tt so.1 (both_read asked opened compares closes).asked)
    (counts_failed e' (both_read asked opened compares closes).reading) tt (sink_err compares.sink)

-- ---- two captures of one talker

pub has_agreement : (asked : Agreeing) (x y : List ℕ) (shift : ℤ) (p : PacketJournal) → HearsTalker shift p (plan_of asked.listener) (records_in (take asked.listener.limit x)) → HearsTalker shift p (plan_of asked.listener) (records_in (take asked.listener.limit y))
    → HasAgreement asked p x y (compared_text asked x y)
has_agreement asked x y shift p a b =
    let plan = plan_of asked.listener in
    let limit = asked.listener.limit in
    let none = captures-none shift p plan plan (records_in (take limit x)) (records_in (take limit y)) a b refl in
    record {
      printed = ap (λ (l : List Difference). difference_lines l ++ last_lines limit (counts_of (merged_in asked x y)) (end_of limit x) (end_of limit y)) none;
      none = ap length none;
      one = captures-one shift p plan plan (records_in (take limit x)) (records_in (take limit y)) a b refl;
      paired = captures-paired shift p plan plan (records_in (take limit x)) (records_in (take limit y)) a b refl;
    }
