-- The run of `talk`, whether its input could be opened or not.
use Rattle.std.proofs.Common.{◌≢◌, Result, ◌≡◌, ℕ, List, Option, Some, None, refl, sym, ◌∙◌, Ok, Err, false, ap, subst, [], ◌∷◌, true, if◌then◌else◌, ◌++◌, append_assoc, arith, inl}
use Rattle.std.specs.Prelude.{IfOk, IsErrOf, ⊤}
use Rattle.avtp_base.specs.declared.failed.FaultPlace.{FaultPlace}
use Rattle.avtp_base.specs.declared.failed.Failed.{Failed}
use Rattle.avtp_base.specs.States.{Asks, ShelfState, WasAsked, SinkState}
use Rattle.avtp_words.specs.Grammar.{Talking}
use Rattle.talk_plan.specs.declared.plan.TalkPlan.{TalkPlan}
use Rattle.talker.specs.Frames.{capture}
use Rattle.avtp_base.specs.Files.{Files, IsMissing}
use Rattle.avtp_base.specs.Told.{Appends}
use Rattle.avtp_base.specs.declared.failed.OpenFault.{OpenFault}
use Rattle.avtp_base.specs.Faults.{FailsAt, HasOneMore, ReadingFaults}
use Rattle.capture_io.specs.declared.contents.Contents.{Contents}
use Rattle.capture_io.specs.Contents.{IsWholeCounted, IsContents}
use Rattle.capture_io.specs.Reads.{OnlyReads}
use Rattle.avtp_text.specs.Written.{written}
use Rattle.avtp_text.specs.Notices.{read_fault_line}
use Rattle.capture_io.specs.declared.end.Stop.{Stop}
use Rattle.capture_io.specs.Ends.{CountsStop}
use Rattle.talk_plan.specs.Plan.{most_input}
use Rattle.avtp_base.specs.declared.failed.OpenFault.TheVariants as open_fault
use Rattle.capture_io.specs.declared.end.Stop.TheVariants as stop
use Rattle.run_report.specs.declared.status.Status.{Status}
use Rattle.run_report.specs.Made.{MakesOutput, MakesPart, CountsWriting}
use Rattle.run_report.specs.Outcome.{TellsText, is_done, IsDone, EndsUnopened, KeepsSink}
use Rattle.run_report.specs.Runs.{TellsAll, Runs}
use Rattle.run_report.specs.Yield.{says, Gives, HandsNothing}
use Rattle.run_report.proofs.Yields.{part_text}
use Rattle.run_report.proofs.Making.{kept_but, slots_but, asks_from, files_from, slots_from}
use Rattle.run_report.proofs.Runs.{no_devices, through_as}
use Rattle.run_report.proofs.Outcomes.{counts_unopened, tells_unopened, tells_weaker, text_telling, unopened_other, unopened_undone}
use Rattle.run_report.specs.declared.status.Status.TheVariants as status
use Rattle.talk_command.specs.Talk.{FailsSomewhere, talk_task, talk_plan}
use Rattle.talk_command.specs.state.Talk.{talk_came, talk_made, IsRead, TalkOutcome, TalkedOutcome, Makes, OutcomeWith, FaultStops, WritesOnly}
use Rattle.talk_command.proofs.TalkOutcomes.{talk_halts, talk_here}
use Rattle.talk_command.proofs.Talked.{makes_after, makes_none, read_counted, talks_unopened, tells_caused, tells_since}

-- ---- the names that were asked for

-- the names that a run asked for, given its status
abbrev pub CameAs : Talking → Result Status Failed → ShelfState → ShelfState → Type 0
CameAs asked result a b = IfOk result (λ s. s ≢ status.Memory → s ≢ status.WriteFault → Asks (talk_came asked s) a b)

made_by : (P : Option (List ℕ) → Type 0) (plan : TalkPlan) (told : Option (List ℕ)) (ended : Status) → (told ≡ None → ended ≢ status.Done) → (ended ≢ status.Done → P None)
    → ((bytes : List ℕ) → told ≡ Some bytes → ended ≡ status.Done → P (Some (capture plan bytes))) → P (talk_made plan told ended)
made_by P plan None ended never none some = none (never refl)
made_by P plan (Some bytes) status.Done never none some = some bytes refl refl
made_by P plan (Some bytes) status.Findings never none some = none (λ e. cc)
made_by P plan (Some bytes) status.Words never none some = none (λ e. cc)
made_by P plan (Some bytes) status.Refused never none some = none (λ e. cc)
made_by P plan (Some bytes) status.ReadFault never none some = none (λ e. cc)
made_by P plan (Some bytes) status.WriteFault never none some = none (λ e. cc)
made_by P plan (Some bytes) status.Memory never none some = none (λ e. cc)
made_by P plan (Some bytes) status.Limit never none some = none (λ e. cc)
made_by P plan (Some bytes) status.DeviceFault never none some = none (λ e. cc)
made_by P plan (Some bytes) status.TalkInput never none some = none (λ e. cc)

-- if the input of a run is missing, the run does not end with `Done`
missing_undone : (plan : TalkPlan) (told : Option (List ℕ)) (fault : Type 0) (ended : Status) (text : List ℕ) → TalkOutcome plan told fault ended text → told ≡ None → ended ≢ status.Done
missing_undone plan None fault ended text o is e = let t : status.ReadFault ≡ status.Done = sym o.0 ∙ e in cc
missing_undone plan (Some bytes) fault ended text o is e = absurd cc

talk_tells : {all : Files} {a b : ShelfState} {before now : Option (List ℕ)} {result : Result Status Failed} (asked : Talking) (fault : FaultPlace → Type 0) → CameAs asked result a b
    → TellsText (OutcomeWith (TalkOutcome (talk_plan asked) (all asked.input) (FailsSomewhere fault)) a.files b.files) before now result
    → ((bytes : List ℕ) → all asked.input ≡ Some bytes → Makes asked.output (capture (talk_plan asked) bytes) a.files b.files result) → TellsAll (talk_task asked) all fault false HandsNothing a b before now result
talk_tells {all} {a} {b} {before} {now} {result} asked fault came tells makes = record {
  made = talk_made plan told tells.ended;
  tells = record {
    came = talk_came asked tells.ended;
    ended = tells.ended;
    yields = says tells.yields;
    outcome = talk_halts asked told (FailsSomewhere fault) tells.ended (says tells.yields) refl tells.outcome.0;
    whole = whole_at result came tells.whole;
    part = part_text refl (says tells.yields) tells.part;
  };
  whole = made_at result tells.whole makes;
  begun = made_by (λ (made : Option (List ℕ)). MakesPart (Some asked.output) made a.files b.files) plan told tells.ended never tells.outcome.1 (λ bytes is done. (makes bytes is).part);
} where
  plan : TalkPlan
  plan = talk_plan asked

  told : Option (List ℕ)
  told = all asked.input

  never : told ≡ None → tells.ended ≢ status.Done
  never = missing_undone plan told (FailsSomewhere fault) tells.ended tells.yields tells.outcome.0

  whole_at : (r : Result Status Failed) → CameAs asked r a b → IfOk r (λ s. s ≢ status.Memory → s ≢ status.WriteFault → (s ≡ tells.ended) × Appends before now tells.yields)
      → IfOk r (λ s. s ≢ status.Memory → s ≢ status.WriteFault → (s ≡ tells.ended) × Gives HandsNothing before now (says tells.yields) × Asks (talk_came asked tells.ended) a b)
  whole_at (Ok s) asks whole = λ memory write. let w = whole memory write in (w.0, record { text = w.1; items = refl }, subst (λ (x : Status). Asks (talk_came asked x) a b) w.0 (asks memory write))
  whole_at (Err e) asks whole = tt

  made_at : (r : Result Status Failed) → IfOk r (λ s. s ≢ status.Memory → s ≢ status.WriteFault → (s ≡ tells.ended) × Appends before now tells.yields)
      → ((bytes : List ℕ) → told ≡ Some bytes → Makes asked.output (capture plan bytes) a.files b.files r) → IfOk r (λ s. s ≢ status.Memory → s ≢ status.WriteFault → MakesOutput (Some asked.output) (talk_made plan told tells.ended) a.files b.files)
  made_at (Ok s) whole makes = λ memory write.
      let same = (whole memory write).0 in
      made_by (λ (made : Option (List ℕ)). MakesOutput (Some asked.output) made a.files b.files) plan told tells.ended never tells.outcome.1
      (λ bytes is done. (makes bytes is).done (ap (λ (x : Status). Ok x) (same ∙ done)))
  made_at (Err e) whole makes = tt

came_unopened : (a b : ShelfState) (asked : Talking) (result : Result Status Failed) → Asks (asked.input ∷ []) a b → (IsDone result → ⊥) → CameAs asked result a b
came_unopened a b asked (Ok s) asks not_done =
    elim (is_done s) as (λ d. is_done s ≡ d → s ≢ status.Memory → s ≢ status.WriteFault → Asks (asked.input ∷ (if d then asked.output ∷ [] else [])) a b) [
      | true ↦ λ is. absurd (not_done is)
      | false ↦ λ is memory write. asks
    ] refl
came_unopened a b asked (Err e) asks not_done = tt

came_opened : (a b c : ShelfState) (asked : Talking) (result : Result Status Failed) → Asks (asked.input ∷ []) a b → IfOk result (λ s. s ≢ status.Memory → s ≢ status.WriteFault → Asks (if is_done s then asked.output ∷ [] else []) b c) → CameAs asked result a c
came_opened a b c asked (Ok s) first second = λ memory write before stands.
    subst (WasAsked c.asked) (append_assoc before (asked.input ∷ []) (if is_done s then asked.output ∷ [] else [])) (second memory write (before ++ asked.input ∷ []) (first before stands))
came_opened a b c asked (Err e) first second = tt

-- ---- an input that was not opened

pub unopened_runs : {s t : ShelfState} {h h' : SinkState} {l l' : List ℕ} {result : Result Status Failed} (asked : Talking) (why : OpenFault)
    → (IsErrOf {T = Contents} (Err why) open_fault.Missing → IsMissing s.files asked.input) → IsWholeCounted s.reading_faults t.reading_faults (Err why) → OnlyReads s t (asked.input ∷ []) → EndsUnopened why h h' l l' result
    → Runs (talk_task asked) HandsNothing false s t h h' l l' result
unopened_runs {s} {t} {h} {h'} {l} {l'} {result} asked why missing counts keeps ends =
    let plan = talk_plan asked in
    let here = λ (all : Files). talk_here plan (all asked.input) (FailsSomewhere (FailsAt s.reading_faults t.reading_faults)) in
    let not_done = unopened_other why status.Done (λ e. cc) (λ e. cc) ends in
    let not_failed = unopened_other why status.WriteFault (λ e. cc) (λ e. cc) ends in
    let not_device = unopened_other why status.DeviceFault (λ e. cc) (λ e. cc) ends in
    record {
      tells = λ all told some. talk_tells asked (FailsAt s.reading_faults t.reading_faults) (came_unopened s t asked result keeps.asked (unopened_undone why result ends))
          (tells_weaker (λ ended text o. (o, λ other. keeps.files))
          (tells_unopened {T = Contents} {Outcome = TalkOutcome plan (all asked.input) (FailsSomewhere (FailsAt s.reading_faults t.reading_faults))} why s.reading_faults t.reading_faults s.files asked.input (here all).0 (here all).1 (text_telling (written h.held l) (written h'.held l') read_fault_line) (here all).2
          (λ cause. talks_unopened plan s.reading_faults t.reading_faults s.files asked.input all told cause) (read_counted counts) missing ends))
          (λ bytes is. makes_after keeps.files (makes_none t.files result not_done));
      files = kept_but s.files t.files asked.output keeps.files;
      slots = slots_but t.files s.slots t.slots asked.output keeps.slots;
      counts = counts_unopened {T = Contents} why s.reading_faults t.reading_faults s.files asked.input (read_counted counts) missing ends;
      writing = record { never_falls = omega (arith, keeps.writing); failed = λ e. absurd (not_failed e); other = λ e. keeps.writing; unwritten = λ e. absurd cc };
      no_words = unopened_other why status.Words (λ e. cc) (λ e. cc) ends;
      devices = no_devices refl not_device;
      asks = through_as not_device (record { count = 1; within = omega arith; all = λ d. absurd (unopened_undone why result ends d); asked = keeps.asked });
      sink = ends.sink;
    }

-- ---- an input that was read

once_by : (halt : Stop) (before after : ReadingFaults) → CountsStop (Some halt) before after → halt ≡ stop.Fault → HasOneMore before after
once_by halt before after counts is = subst (λ (x : Stop). CountsStop (Some x) before after) is counts

-- if a fault stopped the reading, it occurred somewhere
failed_by : (limit : ℕ) (bytes : List ℕ) (fault : FaultPlace → Type 0) (halt : Stop) (prefix : List ℕ) → IsContents limit bytes fault halt prefix → halt ≡ stop.Fault → FailsSomewhere fault
failed_by limit bytes fault halt prefix has is = let at = subst (λ (x : Stop). IsContents limit bytes fault x prefix) is has in (_, at.2)

any_place : (limit : ℕ) (bytes : List ℕ) (fault : FaultPlace → Type 0) (halt : Stop) (prefix : List ℕ) → IsContents limit bytes fault halt prefix → IsContents limit bytes (λ place. ⊤) halt prefix
any_place limit bytes fault stop.End prefix has = has
any_place limit bytes fault stop.Fault prefix has = (has.0, has.1, tt, has.3)
any_place limit bytes fault stop.Limit prefix has = has

still_by : (halt : Stop) (before after : ReadingFaults) → CountsStop (Some halt) before after → halt ≢ stop.Fault → after ≡ before
still_by stop.Fault before after counts other = absurd (other refl)
still_by stop.End before after counts other = counts
still_by stop.Limit before after counts other = counts

quiet_by : (halt : Stop) (result : Result Status Failed) (before after : ReadingFaults) → CountsStop (Some halt) before after → IfOk result (λ s. s ≢ status.ReadFault → s ≢ status.Memory → s ≢ status.WriteFault → halt ≢ stop.Fault)
    → IfOk result (λ s. s ≢ status.ReadFault → s ≢ status.Memory → s ≢ status.WriteFault → after ≡ before)
quiet_by halt (Ok s) before after counts quiet = λ fault memory write. still_by halt before after counts (quiet fault memory write)
quiet_by halt (Err e) before after counts quiet = tt

-- what was read from the input, if the shelf shows its files
abbrev pub IsInput : Option Files → (FaultPlace → Type 0) → List ℕ → Contents → Type 0
IsInput files fault name contents = (all : Files) → files ≡ Some all → (bytes : List ℕ) × (all name ≡ Some bytes) × IsContents most_input bytes fault contents.stop contents.bytes.items

same_input : (told : Option (List ℕ)) (x y : List ℕ) → told ≡ Some x → told ≡ Some y → x ≡ y
same_input told x y first second = cc

pub opened_runs : {s t u : ShelfState} {h h' : SinkState} {l l' : List ℕ} {result : Result Status Failed} (asked : Talking) (contents : Contents)
    → IsInput s.files (FailsAt s.reading_faults t.reading_faults) asked.input contents → CountsStop (Some contents.stop) s.reading_faults t.reading_faults → OnlyReads s t (asked.input ∷ [])
    → ((bytes : List ℕ) → IsRead bytes contents → TellsText (OutcomeWith (TalkedOutcome (talk_plan asked) bytes (contents.stop ≡ stop.Fault)) t.files u.files) (written h.held l) (written h'.held l') result)
    → ((bytes : List ℕ) → IsRead bytes contents → Makes asked.output (capture (talk_plan asked) bytes) t.files u.files result)
    → WritesOnly t u asked.output result → FaultStops contents.stop result → KeepsSink h h' result → Runs (talk_task asked) HandsNothing false s u h h' l l' result
opened_runs {s} {t} {u} {h} {h'} {l} {l'} {result = result} asked contents read counted keeps tells makes writes stops sink =
    let plan = talk_plan asked in
    let counts : CountsStop (Some contents.stop) s.reading_faults u.reading_faults = subst (CountsStop (Some contents.stop) s.reading_faults) (sym writes.reading) counted in
    record {
      tells = λ all told some.
          let input = read all told in
          let here = any_place most_input input.0 (FailsAt s.reading_faults t.reading_faults) contents.stop contents.bytes.items input.2 in
          let fails : contents.stop ≡ stop.Fault → FailsSomewhere (FailsAt s.reading_faults u.reading_faults) = λ is. subst (λ (faults : ReadingFaults). FailsSomewhere (FailsAt s.reading_faults faults)) (sym writes.reading) (failed_by most_input input.0 (FailsAt s.reading_faults t.reading_faults) contents.stop contents.bytes.items input.2 is) in
          talk_tells asked (FailsAt s.reading_faults u.reading_faults) (came_opened s t u asked result keeps.asked writes.came)
          (tells_since s.files t.files u.files keeps.files
          (subst (λ (v : Option (List ℕ)). TellsText (OutcomeWith (TalkOutcome plan v (FailsSomewhere (FailsAt s.reading_faults u.reading_faults))) t.files u.files) (written h.held l) (written h'.held l') result) (sym input.1)
          (tells_caused t.files u.files plan input.0 (contents.stop ≡ stop.Fault) (FailsSomewhere (FailsAt s.reading_faults u.reading_faults)) fails (tells input.0 here))))
          (λ bytes is. makes_after keeps.files (subst (λ (b : List ℕ). Makes asked.output (capture plan b) t.files u.files result) (same_input (all asked.input) input.0 bytes input.1 is) (makes input.0 here)));
      files = files_from s.files t.files u.files asked.output keeps.files writes.files;
      slots = slots_from t.files u.files s.slots t.slots u.slots asked.output writes.files keeps.slots writes.slots;
      counts = record { never_falls = omega (arith, keeps.reading, ap (λ (faults : ReadingFaults). faults.count) writes.reading); fault = λ e. inl (once_by contents.stop s.reading_faults u.reading_faults counts (stops.fault e)); quiet = quiet_by contents.stop result s.reading_faults u.reading_faults counts stops.quiet };
      writing = subst (λ (n : ℕ). CountsWriting (Some asked.output) n u.writing_faults result) keeps.writing writes.writing;
      no_words = stops.no_words;
      devices = no_devices refl stops.no_devices;
      asks = through_as stops.no_devices (asks_from asked.input keeps.asked writes.asked);
      sink = sink;
    }
