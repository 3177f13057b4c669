-- What `talk` makes of an input.
use Rattle.std.proofs.Common.{ℕ, List, [], ◌∷◌, refl, arith, sym, subst, append-nil, ◌≡◌, ◌≤◌, Err, inr, Ok, Option, Result, inl, if◌then◌else◌, Some, true, false, take, length, ◌∙◌, ◌<◌, None}
use Rattle.std.specs.Prelude.{IfOk, ◌≢◌, ◌⊎◌, IsOk, ⊤}
use Rattle.avtp_base.specs.States.{Asks, ShelfState, WasAsked, SinkState}
use Rattle.avtp_base.specs.declared.failed.Failed.{Failed}
use Rattle.avtp_base.specs.Faults.{FailsAt, IsOpeningCounted, ReadingFaults, Rose}
use Rattle.capture_io.specs.Writing.{KeepsSlotsBut, PutsPrefix, MakesPrefix}
use Rattle.avtp_base.specs.Files.{PutsFile, Files, KeepsFiles}
use Rattle.avtp_base.specs.declared.failed.OpenFault.{OpenFault}
use Rattle.avtp_base.proofs.Files.{KeepsFiles-refl, KeepsFiles-puts, KeepsFiles-trans}
use Rattle.talk_plan.specs.declared.fault.TalkFault.{TalkFault}
use Rattle.talk_plan.specs.declared.plan.TalkPlan.{TalkPlan}
use Rattle.talker.specs.Faults.{fault_of}
use Rattle.talk_plan.specs.Plan.{most_input}
use Rattle.avtp_text.specs.Written.{written}
use Rattle.avtp_text.proofs.Printing.{prefix_none}
use Rattle.capture_io.specs.Contents.{IsContents, IsWholeCounted}
use Rattle.capture_io.specs.declared.end.Stop.{Stop}
use Rattle.capture_io.specs.declared.contents.Contents.{Contents}
use Rattle.avtp_text.specs.Notices.{read_fault_line}
use Rattle.avtp_base.specs.declared.failed.OpenFault.TheVariants as open_fault
use Rattle.talk_plan.specs.declared.fault.TalkFault.TheVariants as fault
use Rattle.capture_io.specs.declared.end.Stop.TheVariants as stop
use Rattle.run_report.specs.Outcome.{AsksFor, is_done, IsDone, TellsText, EndsWith}
use Rattle.run_report.specs.declared.status.Status.{Status}
use Rattle.run_report.proofs.Making.{whole_prefix, prefix_after, files_still, slots_still}
use Rattle.run_report.specs.Endings.{unmade_as}
use Rattle.run_report.specs.Made.{KeepsFilesBut, CountsWriting}
use Rattle.run_report.proofs.Outcomes.{IsCut, undone_by, tells_cut, tells_line, ends_not, ok_same, undone_as, tells_weaker, missing_none, Unopened}
use Rattle.run_report.specs.declared.status.Status.TheVariants as status
use Rattle.talk_command.specs.Talk.{FailsSomewhere}
use Rattle.talk_command.specs.state.Talk.{TalkedOutcome, TalkOutcome, MakesFile, Makes, WritesOnly, EndsRefused, OutcomeWith, FaultStops}
use Rattle.avtp_text.specs.Talk.{talk_input_line}
use Rattle.talk_command.proofs.TalkOutcomes.{talked_here}

-- ---- names

pub asks_one : {a b : ShelfState} {done : Type 0} (name : List ℕ) → Asks (name ∷ []) a b → AsksFor (name ∷ []) a b done
asks_one name asked = record { count = 1; within = omega arith; all = λ d. refl; asked = asked }

asks_none : (a : ShelfState) (done : Type 0) (name : List ℕ) → (done → ⊥) → AsksFor (name ∷ []) a a done
asks_none a done name never = record { count = 0; within = omega arith; all = λ d. absurd (never d); asked = λ before stands. subst (WasAsked a.asked) (sym (append-nil before)) stands }

-- ---- a file that was made, or could not be made

-- the file was created, but writing it failed
pub unmade_part : {s t : ShelfState} (name bytes : List ℕ) → PutsPrefix s.files t.files name bytes → KeepsSlotsBut s.files s.slots t.slots name → t.reading_faults ≡ s.reading_faults → s.writing_faults ≤ t.writing_faults → Rose s.writing_faults t.writing_faults
    → (Asks (name ∷ []) s t) → MakesFile s t name bytes (Err open_fault.Failed)
unmade_part name bytes part slots reading falls rose asked = record {
  made = tt;
  part = inr part;
  not_missing = λ e. absurd cc;
  slots = slots;
  reading = reading;
  writing = record { never_falls = falls; ok = tt; missing = λ e. absurd cc; memory = λ e. absurd cc; failed = λ e. rose };
  asked = asks_one name asked;
}

pub made_all : {s t : ShelfState} (name bytes : List ℕ) (ok : Unit) → PutsFile s.files t.files name bytes → KeepsSlotsBut s.files s.slots t.slots name → t.reading_faults ≡ s.reading_faults → t.writing_faults ≡ s.writing_faults
    → (Asks (name ∷ []) s t) → MakesFile s t name bytes (Ok ok)
made_all name bytes ok put slots reading writing asked = record {
  made = put;
  part = tt;
  not_missing = λ e. absurd cc;
  slots = slots;
  reading = reading;
  writing = record { never_falls = omega (arith, writing); ok = writing; missing = λ e. absurd cc; memory = λ e. absurd cc; failed = λ e. absurd cc };
  asked = asks_one name asked;
}

-- ---- runs that make a file, and runs that end before they make one

pub makes_whole : {f g : Option Files} {name bytes : List ℕ} (result : Result Status Failed) → PutsFile f g name bytes → IfOk result (λ s. s ≡ status.Done) → Makes name bytes f g result
makes_whole {f} {g} {name} {bytes} (Ok s) put is = record { done = λ e. put; part = inr (whole_prefix f g name bytes put); untouched = λ done. absurd (done is) }
makes_whole {f} {g} {name} {bytes} (Err e) put is = record { done = λ e. absurd cc; part = inr (whole_prefix f g name bytes put); untouched = tt }

pub makes_part : {f g : Option Files} {name bytes : List ℕ} (fault : OpenFault) → MakesPrefix f g name bytes → Makes name bytes f g (Ok (unmade_as fault))
makes_part open_fault.Memory part = record { done = λ e. absurd cc; part = part; untouched = λ done write memory. absurd (memory refl) }
makes_part open_fault.Missing part = record { done = λ e. absurd cc; part = part; untouched = λ done write. absurd (write refl) }
makes_part open_fault.Failed part = record { done = λ e. absurd cc; part = part; untouched = λ done write. absurd (write refl) }

pub makes_none : {name bytes : List ℕ} (f : Option Files) (result : Result Status Failed) → (result ≡ Ok status.Done → ⊥) → Makes name bytes f f result
makes_none {name} {bytes} f result never = record { done = λ e. absurd (never e); part = inl (KeepsFiles-refl f); untouched = kept result } where
  kept : (r : Result Status Failed) → IfOk r (λ s. s ≢ status.Done → s ≢ status.WriteFault → s ≢ status.Memory → KeepsFiles f f)
  kept (Ok s) = λ done write memory. KeepsFiles-refl f
  kept (Err e) = tt

pub makes_after : {a b c : Option Files} {name bytes : List ℕ} {result : Result Status Failed} → KeepsFiles a b → Makes name bytes b c result → Makes name bytes a c result
makes_after {a} {b} {c} {name} {bytes} {result} keeps m = record {
  done = λ e. KeepsFiles-puts a b c name bytes keeps (m.done e);
  part = prefix_after keeps m.part;
  untouched = still result m.untouched;
} where
  still : (r : Result Status Failed) → IfOk r (λ s. s ≢ status.Done → s ≢ status.WriteFault → s ≢ status.Memory → KeepsFiles b c) → IfOk r (λ s. s ≢ status.Done → s ≢ status.WriteFault → s ≢ status.Memory → KeepsFiles a c)
  still (Ok s) u = λ done write memory. KeepsFiles-trans a b c keeps (u done write memory)
  still (Err e) u = tt

-- ---- files, slots and counts after a run

pub writes_none : {s : ShelfState} (name : List ℕ) (result : Result Status Failed) → (IsDone result → ⊥) → (result ≡ Ok status.WriteFault → ⊥) → WritesOnly s s name result
writes_none {s} name result not_done not_failed = record {
  files = files_still (Some name) s.files;
  slots = slots_still s.files s.slots name;
  reading = refl;
  writing = record { never_falls = omega arith; failed = λ e. absurd (not_failed e); other = λ e. refl; unwritten = λ e. absurd cc };
  asked = asks_none s _ name not_done;
  came = never result not_done;
} where
  never : (x : Result Status Failed) → (IsDone x → ⊥) → IfOk x (λ e. e ≢ status.Memory → e ≢ status.WriteFault → Asks (if is_done e then name ∷ [] else []) s s)
  never (Ok e) other = elim (is_done e) as (λ b. is_done e ≡ b → e ≢ status.Memory → e ≢ status.WriteFault → Asks (if b then name ∷ [] else []) s s) [
    | true ↦ λ is. absurd (other is)
    | false ↦ λ is memory write before stands. subst (WasAsked s.asked) (sym (append-nil before)) stands
  ] refl
  never (Err e) other = tt

pub writes_made : {s t : ShelfState} {bytes : List ℕ} (name : List ℕ) (made : Result Unit OpenFault) (result : Result Status Failed) → MakesFile s t name bytes made
    → KeepsFilesBut (Some name) s.files t.files → CountsWriting (Some name) s.writing_faults t.writing_faults result → (IsDone result → IsOk made) → IfOk result (λ e. (e ≡ status.Memory) ⊎ ((e ≡ status.WriteFault) ⊎ (e ≡ status.Done))) → WritesOnly s t name result
writes_made {s = s} {t} name made result makes files writing done ends = record {
  files = files;
  slots = makes.slots;
  reading = makes.reading;
  writing = writing;
  asked = record { count = makes.asked.count; within = makes.asked.within; all = λ d. makes.asked.all (done d); asked = makes.asked.asked };
  came = by_status result done ends;
} where
  asked_one : (count : ℕ) → count ≡ 1 → Asks (take count (name ∷ [])) s t → Asks (name ∷ []) s t
  asked_one count is asks = subst (λ (n : ℕ). Asks (take n (name ∷ [])) s t) is asks

  by_status : (x : Result Status Failed) → (IsDone x → IsOk made) → IfOk x (λ e. (e ≡ status.Memory) ⊎ ((e ≡ status.WriteFault) ⊎ (e ≡ status.Done))) → IfOk x (λ e. e ≢ status.Memory → e ≢ status.WriteFault → Asks (if is_done e then name ∷ [] else []) s t)
  by_status (Ok ended) done (inl is) = λ memory. absurd (memory is)
  by_status (Ok ended) done (inr (inl is)) = λ memory write. absurd (write is)
  by_status (Ok ended) done (inr (inr is)) = λ memory write. rw is (asked_one makes.asked.count (makes.asked.all (done (rw is refl))) makes.asked.asked)
  by_status (Err e) done ends = tt

-- if the file could not be made, the run is cut short
pub unmade_cut : (why : OpenFault) → IsCut (Ok (unmade_as why))
unmade_cut open_fault.Memory = inl refl
unmade_cut open_fault.Missing = inr refl
unmade_cut open_fault.Failed = inr refl

pub cut_by : (why : OpenFault) (ended : Status) → ended ≡ unmade_as why → (ended ≡ status.Memory) ⊎ ((ended ≡ status.WriteFault) ⊎ (ended ≡ status.Done))
cut_by open_fault.Memory ended is = inl is
cut_by open_fault.Missing ended is = inr (inl is)
cut_by open_fault.Failed ended is = inr (inl is)

pub cut_undone : (why : OpenFault) (ended : Status) → ended ≡ unmade_as why → IsDone (Ok ended) → ⊥
cut_undone open_fault.Memory ended is = undone_by (Ok ended) status.Memory refl is
cut_undone open_fault.Missing ended is = undone_by (Ok ended) status.WriteFault refl is
cut_undone open_fault.Failed ended is = undone_by (Ok ended) status.WriteFault refl is

pub sent_done : (result : Result Status Failed) → IfOk result (λ s. s ≡ status.Done) → IfOk result (λ s. (s ≡ status.Memory) ⊎ ((s ≡ status.WriteFault) ⊎ (s ≡ status.Done)))
sent_done (Ok s) is = inr (inr is)
sent_done (Err e) is = tt

-- ---- an input that makes no stream

memory_or : (why : TalkFault) → (why ≡ fault.Memory) ⊎ (why ≢ fault.Memory)
memory_or fault.Memory = inl refl
memory_or fault.Frames = inr (λ e. cc)
memory_or fault.StartCode = inr (λ e. cc)
memory_or fault.NalType = inr (λ e. cc)
memory_or fault.Packets = inr (λ e. cc)
memory_or fault.Arrival = inr (λ e. cc)

pub tells_refused : {h h' : SinkState} {w w' : List ℕ} {result : Result Status Failed} (plan : TalkPlan) (bytes : List ℕ) (cause : Type 0) (why : TalkFault) → length bytes ≤ most_input
    → (fault_of plan bytes ≡ Some why) ⊎ (why ≡ fault.Memory) → EndsRefused why h h' w w' result → TellsText (TalkedOutcome plan bytes cause) (written h.held w) (written h'.held w') result
tells_refused {h} {h'} {w} {w'} {result = result} plan bytes cause why fits only ends =
    elim (memory_or why) [
      | inl is ↦
          let left = ends.memory is in
          let here = talked_here plan bytes cause in
          tells_cut here.0 here.1 here.2 (subst IsCut (sym left.0) (inl refl)) (prefix_none (written h.held w) (written h'.held w') here.1 left.1)
      | inr other ↦ elim only [
        | inl is ↦ let refused : TalkedOutcome plan bytes cause status.TalkInput (talk_input_line why) = (fits, (why, is, refl)) in tells_line refused (ends.other other)
        | inr memory ↦ absurd (other memory)
      ]
    ]

pub refused_not : {h h' : SinkState} {w w' : List ℕ} {result : Result Status Failed} (why : TalkFault) (other : Status) → status.Memory ≢ other → status.TalkInput ≢ other → EndsRefused why h h' w w' result → result ≡ Ok other → ⊥
refused_not {result = result} why other no_memory no_input ends e =
    elim (memory_or why) [
      | inl is ↦ no_memory (ok_same result status.Memory other (ends.memory is).0 e)
      | inr differs ↦ ends_not other no_input (ends.other differs) e
    ]

pub refused_undone : {h h' : SinkState} {w w' : List ℕ} (result : Result Status Failed) (why : TalkFault) → EndsRefused why h h' w w' result → IsDone result → ⊥
refused_undone result why ends =
    elim (memory_or why) [
      | inl is ↦ undone_as result status.Memory refl (ends.memory is).0
      | inr differs ↦ undone_by result status.TalkInput refl (ends.other differs).status
    ]

-- ---- files

pub tells_unwritten : {Outcome : Status → List ℕ → Type 0} {before now : Option (List ℕ)} {result : Result Status Failed} (files : Option Files) → TellsText Outcome before now result → TellsText (OutcomeWith Outcome files files) before now result
tells_unwritten files tells = tells_weaker (λ ended text o. (o, λ other. KeepsFiles-refl files)) tells

pub tells_made : {Outcome : Status → List ℕ → Type 0} {before now : Option (List ℕ)} {result : Result Status Failed} (files files' : Option Files) → ((ended : Status) (text : List ℕ) → Outcome ended text → ended ≡ status.Done) → TellsText Outcome before now result
    → TellsText (OutcomeWith Outcome files files') before now result
tells_made files files' done tells = tells_weaker (λ ended text o. (o, λ other. absurd (other (done ended text o)))) tells

pub tells_since : {Outcome : Status → List ℕ → Type 0} {before now : Option (List ℕ)} {result : Result Status Failed} (a b c : Option Files) → KeepsFiles a b → TellsText (OutcomeWith Outcome b c) before now result → TellsText (OutcomeWith Outcome a c) before now result
tells_since a b c keeps tells = tells_weaker (λ ended text o. (o.0, λ other. KeepsFiles-trans a b c keeps (o.1 other))) tells

-- ---- an input that was read

talked_weaker : (plan : TalkPlan) (bytes : List ℕ) (a b : Type 0) (ended : Status) (text : List ℕ) → (a → b) → TalkedOutcome plan bytes a ended text → TalkedOutcome plan bytes b ended text
talked_weaker plan bytes a b status.Done text weaker o = o
talked_weaker plan bytes a b status.TalkInput text weaker o = o
talked_weaker plan bytes a b status.Limit text weaker o = o
talked_weaker plan bytes a b status.ReadFault text weaker o = (weaker o.0, o.1)
talked_weaker plan bytes a b status.Findings text weaker o = absurd o
talked_weaker plan bytes a b status.Words text weaker o = absurd o
talked_weaker plan bytes a b status.Refused text weaker o = absurd o
talked_weaker plan bytes a b status.WriteFault text weaker o = absurd o
talked_weaker plan bytes a b status.Memory text weaker o = absurd o
talked_weaker plan bytes a b status.DeviceFault text weaker o = absurd o

-- each outcome stays possible if the condition for a read fault is weakened
pub tells_caused : {before now : Option (List ℕ)} {result : Result Status Failed} (f g : Option Files) (plan : TalkPlan) (bytes : List ℕ) (a b : Type 0) → (a → b) → TellsText (OutcomeWith (TalkedOutcome plan bytes a) f g) before now result → TellsText (OutcomeWith (TalkedOutcome plan bytes b) f g) before now result
tells_caused f g plan bytes a b weaker tells = tells_weaker (λ ended text o. (talked_weaker plan bytes a b ended text weaker o.0, o.1)) tells

pub whole_is : (limit : ℕ) (bytes : List ℕ) (halt : Stop) (prefix slice : List ℕ) → halt ≡ stop.End → slice ≡ prefix → IsContents limit bytes (λ place. ⊤) halt prefix → slice ≡ bytes
whole_is limit bytes halt prefix slice is same has = same ∙ sym (subst (λ (h : Stop). IsContents limit bytes (λ place. ⊤) h prefix) is has).0

pub tells_read : {before now : Option (List ℕ)} {result : Result Status Failed} {prefix : List ℕ} (f g : Option Files) (plan : TalkPlan) (bytes input : List ℕ) (halt : Stop)
    → halt ≡ stop.End → input ≡ prefix → IsContents most_input bytes (λ place. ⊤) halt prefix → TellsText (OutcomeWith (TalkedOutcome plan input ⊥) f g) before now result → TellsText (OutcomeWith (TalkedOutcome plan bytes (halt ≡ stop.Fault)) f g) before now result
tells_read {before} {now} {result} {prefix} f g plan bytes input halt is same has tells =
    subst (λ (b : List ℕ). TellsText (OutcomeWith (TalkedOutcome plan b (halt ≡ stop.Fault)) f g) before now result) (whole_is most_input bytes halt prefix input is same has)
    (tells_caused f g plan input ⊥ (halt ≡ stop.Fault) (λ none. absurd none) tells)

-- if the limit stopped the reading, the input is longer than the limit
pub too_long : (limit : ℕ) (bytes : List ℕ) (halt : Stop) (prefix : List ℕ) → halt ≡ stop.Limit → IsContents limit bytes (λ place. ⊤) halt prefix → limit < length bytes
too_long limit bytes halt prefix is has = (subst (λ (h : Stop). IsContents limit bytes (λ place. ⊤) h prefix) is has).0

-- ---- the end of a run whose input was read

-- if `other` is neither `Memory` nor `WriteFault`, and a run ends with `other`, a possible outcome has the status
-- `other`
talked_never : {before now : Option (List ℕ)} (plan : TalkPlan) (bytes : List ℕ) (cause : Type 0) (result : Result Status Failed) (other : Status) → other ≢ status.Memory → other ≢ status.WriteFault
    → ((text : List ℕ) → TalkedOutcome plan bytes cause other text → ⊥) → TellsText (TalkedOutcome plan bytes cause) before now result → result ≡ Ok other → ⊥
talked_never plan bytes cause (Ok s) other no_memory no_write none tells e =
    let same : s ≡ other = ok_same (Ok s) s other refl e in
    let ended = (tells.whole (λ m. no_memory (sym same ∙ m)) (λ w. no_write (sym same ∙ w))).0 in
    none tells.yields (subst (λ (x : Status). TalkedOutcome plan bytes cause x tells.yields) (sym ended ∙ same) tells.outcome)
talked_never plan bytes cause (Err f) other no_memory no_write none tells e = absurd cc

quiet_end : (halt : Stop) (result : Result Status Failed) → halt ≡ stop.End → IfOk result (λ s. s ≢ status.ReadFault → s ≢ status.Memory → s ≢ status.WriteFault → halt ≢ stop.Fault)
quiet_end halt (Ok s) is = λ fault memory write e. absurd (let t : stop.End ≡ stop.Fault = sym is ∙ e in cc)
quiet_end halt (Err e) is = tt

pub stops_end : {before now : Option (List ℕ)} (plan : TalkPlan) (bytes : List ℕ) (halt : Stop) (result : Result Status Failed) → halt ≡ stop.End → TellsText (TalkedOutcome plan bytes ⊥) before now result → FaultStops halt result
stops_end plan bytes halt result is tells = record {
  fault = λ e. absurd (talked_never plan bytes ⊥ result status.ReadFault (λ t. cc) (λ t. cc) (λ text o. o.0) tells e);
  quiet = quiet_end halt result is;
  no_words = talked_never plan bytes ⊥ result status.Words (λ t. cc) (λ t. cc) (λ text o. o) tells;
  no_devices = talked_never plan bytes ⊥ result status.DeviceFault (λ t. cc) (λ t. cc) (λ text o. o) tells;
}

quiet_fault : (halt : Stop) (result : Result Status Failed) → IfOk result (λ s. s ≡ status.ReadFault) → IfOk result (λ s. s ≢ status.ReadFault → s ≢ status.Memory → s ≢ status.WriteFault → halt ≢ stop.Fault)
quiet_fault halt (Ok s) is = λ fault. absurd (fault is)
quiet_fault halt (Err e) is = tt

pub stops_fault : {h h' : SinkState} {w w' : List ℕ} {line : List ℕ} (halt : Stop) (result : Result Status Failed) → halt ≡ stop.Fault → EndsWith status.ReadFault h h' w w' result line → FaultStops halt result
stops_fault halt result is ends = record { fault = λ e. is; quiet = quiet_fault halt result ends.status; no_words = ends_not status.Words (λ t. cc) ends; no_devices = ends_not status.DeviceFault (λ t. cc) ends }

quiet_limit : (halt : Stop) (result : Result Status Failed) → halt ≡ stop.Limit → IfOk result (λ s. s ≢ status.ReadFault → s ≢ status.Memory → s ≢ status.WriteFault → halt ≢ stop.Fault)
quiet_limit halt (Ok s) is = λ fault memory write e. absurd (let t : stop.Limit ≡ stop.Fault = sym is ∙ e in cc)
quiet_limit halt (Err e) is = tt

pub stops_limit : {h h' : SinkState} {w w' : List ℕ} {line : List ℕ} (halt : Stop) (result : Result Status Failed) → halt ≡ stop.Limit → EndsWith status.Limit h h' w w' result line → FaultStops halt result
stops_limit halt result is ends = record { fault = λ e. absurd (ends_not status.ReadFault (λ t. cc) ends e); quiet = quiet_limit halt result is; no_words = ends_not status.Words (λ t. cc) ends; no_devices = ends_not status.DeviceFault (λ t. cc) ends }

-- ---- an input that could not be opened

pub read_counted : {before after : ReadingFaults} {why : OpenFault} → IsWholeCounted before after (Err why) → IsOpeningCounted {T = Contents} before after (Err why)
read_counted counts = record { never_falls = counts.never_falls; ok = tt; missing = counts.missing; memory = counts.memory; failed = counts.failed }

pub talks_unopened : (plan : TalkPlan) (before after : ReadingFaults) (files : Option Files) (name : List ℕ) (all : Files) → files ≡ Some all → Unopened before after files name → TalkOutcome plan (all name) (FailsSomewhere (FailsAt before after)) status.ReadFault read_fault_line
talks_unopened plan before after files name all told (inl rose) = by_told (all name) where
  by_told : (t : Option (List ℕ)) → TalkOutcome plan t (FailsSomewhere (FailsAt before after)) status.ReadFault read_fault_line
  by_told None = (refl, refl)
  by_told (Some bytes) = ((_, rose), refl)
talks_unopened plan before after files name all told (inr missing) =
    subst (λ (t : Option (List ℕ)). TalkOutcome plan t (FailsSomewhere (FailsAt before after)) status.ReadFault read_fault_line) (sym (missing_none files name all told missing)) (refl, refl)
