-- How much of its text a run printed, if the text has several parts.
use Rattle.std.proofs.Common.{Ok, refl, arith, ℕ, Result, subst, Err, List, ◌≡◌, inl, inr, Option, [], ◌++◌, Some, None, sym, ◌∷◌, ◌≤◌, ◌∙◌, true, false, ap}
use Rattle.std.specs.Prelude.{IsErr, ◌⊎◌, IfOk, ◌≢◌, IsErrOf, Contains}
use Rattle.std.proofs.lemmas.List.{append-nil}
use Rattle.avtp_base.specs.States.{SinkState}
use Rattle.avtp_text.proofs.Growth.{grows_none, grows_further}
use Rattle.avtp_base.specs.declared.failed.Failed.{Failed}
use Rattle.avtp_base.specs.Faults.{FailsAt, HasOneMore, IsCounted, IsOpeningCounted, ReadingFaults}
use Rattle.avtp_base.specs.declared.failed.FaultPlace.TheVariants as fault_place
use Rattle.avtp_text.specs.Written.{Prints, PrintsPart, AppendsPrefix, written}
use Rattle.avtp_base.specs.Told.{Appends, Keeps}
use Rattle.avtp_text.proofs.Printing.{prefix_none, prefix_whole}
use Rattle.sample_schedule.specs.declared.shown.Shown.{Shown}
use Rattle.avtp_base.proofs.Told.{Appends-trans, Appends-kept}
use Rattle.avtp_base.specs.Files.{Files, IsMissing}
use Rattle.avtp_base.specs.declared.failed.OpenFault.{OpenFault}
use Rattle.avtp_text.specs.Notices.{read_fault_line}
use Rattle.capture_io.specs.declared.end.End.{End}
use Rattle.capture_io.specs.Ends.{CountsFault}
use Rattle.avtp_base.specs.declared.failed.OpenFault.TheVariants as open_fault
use Rattle.capture_io.specs.declared.end.End.TheVariants as end
use Rattle.run_report.specs.Outcome.{KeepsSink, Tells, EndsWith, TellsText, TellsYield, EndsUnopened, CountsReading, is_done, IsDone}
use Rattle.run_report.specs.declared.status.Status.{Status}
use Rattle.run_report.specs.Yield.{says, Gives, GivesPart, Yield}
use Rattle.run_report.proofs.Yields.{part_none, part_whole}
use Rattle.run_report.specs.Status.{status_of}
use Rattle.run_report.specs.Reading.{IsReadingStatus}
use Rattle.run_report.proofs.Leaving.{own_as}
use Rattle.run_report.specs.declared.status.Status.TheVariants as status

-- ---- the sink

pub sink_still : {T : Type 0} (s : SinkState) (x : T) → KeepsSink s s (Ok x)
sink_still s x = record { grows = grows_none s.held; counted = record { never_falls = omega arith; ok = refl; failed = tt } }

pub sink_then : {T U : Type 0} {h h' h'' : SinkState} {x : T} {result : Result U Failed} → KeepsSink h h' (Ok x) → KeepsSink h' h'' result → KeepsSink h h'' result
sink_then {U = U} {h} {h'} {h''} {x} {result} first second = record {
  grows = grows_further h.held h'.held h''.held first.grows second.grows;
  counted = subst (λ (n : ℕ). IsCounted {T = U} n h''.faults result) first.counted.ok second.counted;
}

pub sink_failed : {T U : Type 0} {h h' : SinkState} {e : Failed} {result : Result U Failed} → IsErr result → KeepsSink {T = T} h h' (Err e) → KeepsSink h h' result
sink_failed {result = Ok x} err first = absurd cc
sink_failed {result = Err e'} err first = record { grows = first.grows; counted = record { never_falls = first.counted.never_falls; ok = tt; failed = first.counted.failed } }

pub sink_err : {T U : Type 0} {h h' : SinkState} {e e' : Failed} → KeepsSink {T = T} h h' (Err e) → KeepsSink {T = U} h h' (Err e')
sink_err kept = record { grows = kept.grows; counted = record { never_falls = kept.counted.never_falls; ok = tt; failed = kept.counted.failed } }

pub sink_printed : {h h' : SinkState} {w w' : List ℕ} {result : Result Unit Failed} {text : List ℕ} → Prints h h' w w' result text → KeepsSink h h' result
sink_printed prints = record { grows = prints.grows; counted = prints.counted }

pub sink_part : {h h' : SinkState} {w w' : List ℕ} {result : Result Unit Failed} {text : List ℕ} → PrintsPart h h' w w' result text → KeepsSink h h' result
sink_part prints = record { grows = prints.grows; counted = prints.counted }

pub sink_ok : {T U : Type 0} {h h' : SinkState} {x : T} (y : U) → KeepsSink h h' (Ok x) → KeepsSink h h' (Ok y)
sink_ok y first = record { grows = first.grows; counted = record { never_falls = first.counted.never_falls; ok = first.counted.ok; failed = tt } }

-- ---- what a run gives out

-- a run was cut short: it failed, or it ended with `Memory` or `WriteFault`
abbrev pub IsCut : Result Status Failed → Type 0
IsCut result = IfOk result (λ s. (s ≡ status.Memory) ⊎ (s ≡ status.WriteFault))

pub tells_cut : {Y : Type 0} {Outcome : Status → Y → Type 0} {Whole Part : Y → Type 0} {result : Result Status Failed} (ended : Status) (yields : Y) → Outcome ended yields → IsCut result → Part yields → Tells Outcome Whole Part result
tells_cut {result = Ok s} ended yields outcome cut part = record {
  ended = ended;
  yields = yields;
  outcome = outcome;
  part = part;
  whole = λ memory write. elim cut [ inl is ↦ absurd (memory is) | inr is ↦ absurd (write is) ];
}
tells_cut {result = Err e} ended yields outcome cut part = record { ended = ended; yields = yields; outcome = outcome; part = part; whole = tt }

-- `Whole y` says that all of the yield `y` was given out. `Part y` says that a part of `y` was given out. If the known
-- bytes grew by `line`, all of the yield `one` was given out. If the known bytes are unchanged, an empty part was given
-- out. An empty part is a part of any yield. A yield that was given out completely was also given out in part.
pub record Telling {Y : Type 0} (Whole Part : Y → Type 0) (before now : Option (List ℕ)) (line : List ℕ) (one : Y) : Type 0 where
  pub says : Appends before now line → Whole one
  pub none : (y : Y) → Keeps before now → Part y
  pub part : (y : Y) → Whole y → Part y

pub text_telling : (before now : Option (List ℕ)) (line : List ℕ) → Telling (Appends before now) (AppendsPrefix before now) before now line line
text_telling before now line = record { says = λ grown. grown; none = prefix_none before now; part = prefix_whole before now }

pub yield_telling : {handed : List Shown → Type 0} (before now : Option (List ℕ)) (line : List ℕ) → handed [] → Telling (Gives handed before now) (GivesPart handed before now) before now line (says line)
yield_telling before now line none = record { says = λ grown. record { text = grown; items = none }; none = part_none none; part = part_whole }

pub tells_last : {Y : Type 0} {Outcome : Status → Y → Type 0} {Whole Part : Y → Type 0} {h h' : SinkState} {w w' : List ℕ} {result : Result Status Failed} {ended : Status} {line : List ℕ} {one : Y}
    → Telling Whole Part (written h.held w) (written h'.held w') line one → Outcome ended one → EndsWith ended h h' w w' result line → Tells Outcome Whole Part result
tells_last {result = Ok s} {ended} {one = one} telling outcome last = record { ended = ended; yields = one; outcome = outcome; whole = λ memory write. (last.status, telling.says last.written); part = telling.part one (telling.says last.written) }
tells_last {result = Err e} {ended} {one = one} telling outcome last = record { ended = ended; yields = one; outcome = outcome; whole = tt; part = telling.none one last.written }

pub tells_line : {Outcome : Status → List ℕ → Type 0} {h h' : SinkState} {w w' : List ℕ} {result : Result Status Failed} {ended : Status} {line : List ℕ}
    → Outcome ended line → EndsWith ended h h' w w' result line → TellsText Outcome (written h.held w) (written h'.held w') result
tells_line {h = h} {h'} {w} {w'} {line = line} outcome last = tells_last (text_telling (written h.held w) (written h'.held w') line) outcome last

pub tells_end : {Outcome : Status → Yield → Type 0} {handed : List Shown → Type 0} {before : Option (List ℕ)} {h h' : SinkState} {w w' : List ℕ} {result : Result Status Failed} {ended : Status} {line : List ℕ} (text : List ℕ) (items : List Shown)
    → Outcome ended (record { text = text ++ line; items = items }) → Appends before (written h.held w) text → handed items → EndsWith ended h h' w w' result line → TellsYield Outcome handed before (written h'.held w') result
tells_end {handed = handed} {before} {h} {h'} {w} {w'} {result = Ok s} {ended} {line} text items outcome first hands last =
    let all = Appends-trans before (written h.held w) (written h'.held w') text line first last.written in
    let yields : Yield = record { text = text ++ line; items = items } in
    let given : Gives handed before (written h'.held w') yields = record { text = all; items = hands } in
    record { ended = ended; yields = yields; outcome = outcome; whole = λ memory write. (last.status, given); part = part_whole yields given }
tells_end {handed = handed} {before} {h} {h'} {w} {w'} {result = Err e} {ended} {line} text items outcome first hands last =
    record {
      ended = ended;
      yields = record { text = text ++ line; items = items };
      outcome = outcome;
      whole = tt;
      part = record {
        text = record { prefix = text; rest = line; split = refl; appends = Appends-kept before (written h.held w) (written h'.held w') text first last.written };
        front = items;
        first = ([], append-nil items);
        items = hands;
      };
    }

pub tells_weaker : {Y : Type 0} {A B : Status → Y → Type 0} {Whole Part : Y → Type 0} {result : Result Status Failed} → ((ended : Status) (yields : Y) → A ended yields → B ended yields) → Tells A Whole Part result → Tells B Whole Part result
tells_weaker weaker t = record { ended = t.ended; yields = t.yields; outcome = weaker t.ended t.yields t.outcome; whole = t.whole; part = t.part }

-- ---- a file that could not be opened

-- Why a file was not opened, if memory did not run out: a reading fault was counted, or the file is missing.
abbrev pub Unopened : ReadingFaults → ReadingFaults → Option Files → List ℕ → Type 0
Unopened before after files name = FailsAt before after fault_place.Opening ⊎ IsMissing files name

cause_of : {T : Type 0} (fault : OpenFault) (before after : ReadingFaults) (files : Option Files) (name : List ℕ) → fault ≢ open_fault.Memory → IsOpeningCounted {T = T} before after (Err fault)
    → (IsErrOf {T = T} (Err fault) open_fault.Missing → IsMissing files name) → Unopened before after files name
cause_of open_fault.Missing before after files name other counts missing = inr (missing refl)
cause_of open_fault.Failed before after files name other counts missing = inl (counts.failed refl)
cause_of open_fault.Memory before after files name other counts missing = absurd (other refl)

memory_or : (fault : OpenFault) → (fault ≡ open_fault.Memory) ⊎ (fault ≢ open_fault.Memory)
memory_or open_fault.Missing = inr (λ e. cc)
memory_or open_fault.Failed = inr (λ e. cc)
memory_or open_fault.Memory = inl refl

-- a missing file has no bytes
pub missing_none : (files : Option Files) (name : List ℕ) (all : Files) → files ≡ Some all → IsMissing files name → all name ≡ None
missing_none None name all told missing = absurd missing
missing_none (Some files) name all told missing = let same : files ≡ all = cc in subst (λ (m : Files). m name ≡ None) same missing

pub tells_unopened : {T Y : Type 0} {Outcome : Status → Y → Type 0} {Whole Part : Y → Type 0} {h h' : SinkState} {w w' : List ℕ} {result : Result Status Failed} {one : Y} (fault : OpenFault) (before after : ReadingFaults) (files : Option Files) (name : List ℕ) (ended : Status) (yields : Y)
    → Telling Whole Part (written h.held w) (written h'.held w') read_fault_line one → Outcome ended yields → (Unopened before after files name → Outcome status.ReadFault one)
    → IsOpeningCounted {T = T} before after (Err fault) → (IsErrOf {T = T} (Err fault) open_fault.Missing → IsMissing files name)
    → EndsUnopened fault h h' w w' result → Tells Outcome Whole Part result
tells_unopened {result = result} fault before after files name ended yields telling outcome other counts missing ends =
    elim (memory_or fault) [
      | inl is ↦ let left = ends.memory is in tells_cut ended yields outcome (subst IsCut (sym left.0) (inl refl)) (telling.none yields left.1)
      | inr no_memory ↦ tells_last telling (other (cause_of fault before after files name no_memory counts missing)) (ends.other no_memory)
    ]

-- ---- counts of reading faults

one_of : (name : List ℕ) → Contains (name ∷ []) name
one_of name = (0, omega arith, refl)

counts_fault : (result : Result Status Failed) (before after : ReadingFaults) (files : Option Files) (name : List ℕ) → before.count ≤ after.count → Unopened before after files name → IfOk result (λ s. s ≡ status.ReadFault)
    → CountsReading (name ∷ []) files before after result
counts_fault (Ok s) before after files name falls cause is = record {
  never_falls = falls;
  fault = λ e. elim cause [ inl fails ↦ inl fails.once | inr missing ↦ inr (record { name = name; one = one_of name; missing = missing }) ];
  quiet = λ fault memory write. absurd (fault is);
}
counts_fault (Err e) before after files name falls cause is = record { never_falls = falls; fault = λ same. absurd cc; quiet = tt }

pub ok_same : (x : Result Status Failed) (s r : Status) → x ≡ Ok s → x ≡ Ok r → s ≡ r
ok_same x s r first second = cc

pub counts_memory : {before after : ReadingFaults} {names : List (List ℕ)} {files : Option Files} (result : Result Status Failed) → before.count ≤ after.count → result ≡ Ok status.Memory → CountsReading names files before after result
counts_memory (Ok s) falls is = record {
  never_falls = falls;
  fault = λ e. absurd (let t : status.Memory ≡ status.ReadFault = ok_same (Ok s) status.Memory status.ReadFault is e in cc);
  quiet = λ fault memory write. absurd (memory cc);
}
counts_memory (Err e) falls is = absurd cc

pub counts_failed : {before after : ReadingFaults} {names : List (List ℕ)} {files : Option Files} (e : Failed) → before.count ≤ after.count → CountsReading names files before after (Err e)
counts_failed e falls = record { never_falls = falls; fault = λ same. absurd cc; quiet = tt }

pub counts_unopened : {T : Type 0} {h h' : SinkState} {w w' : List ℕ} {result : Result Status Failed} (fault : OpenFault) (before after : ReadingFaults) (files : Option Files) (name : List ℕ)
    → IsOpeningCounted {T = T} before after (Err fault) → (IsErrOf {T = T} (Err fault) open_fault.Missing → IsMissing files name)
    → EndsUnopened fault h h' w w' result → CountsReading (name ∷ []) files before after result
counts_unopened {result = result} fault before after files name counts missing ends =
    elim (memory_or fault) [
      | inl is ↦ counts_memory result counts.never_falls (ends.memory is).0
      | inr no_memory ↦ counts_fault result before after files name counts.never_falls (cause_of fault before after files name no_memory counts missing) (ends.other no_memory).status
    ]

-- one more reading fault was counted if and only if the status is `ReadFault`
abbrev pub TellsFault : Status → ReadingFaults → ReadingFaults → Type 0
TellsFault ended before after = ((ended ≢ status.ReadFault) × (after ≡ before)) ⊎ ((ended ≡ status.ReadFault) × HasOneMore before after)

pub counts_by : {before after : ReadingFaults} {names : List (List ℕ)} {files : Option Files} (ended : Status) (result : Result Status Failed) → before.count ≤ after.count → TellsFault ended before after → IfOk result (λ s. s ≡ ended) → CountsReading names files before after result
counts_by ended (Err e) falls told is = counts_failed e falls
counts_by ended (Ok s) falls told is = elim told [
  | inl other ↦ record { never_falls = falls; fault = λ e. absurd (other.0 (sym is ∙ ok_same (Ok s) s status.ReadFault refl e)); quiet = λ fault memory write. other.1 }
  | inr fault ↦ record { never_falls = falls; fault = λ e. inl fault.1; quiet = λ other memory write. absurd (other (is ∙ fault.0)) }
]

ends_fault : (how : End) (before after : ReadingFaults) → CountsFault None (Some how) before after → TellsFault (status_of how) before after
ends_fault end.Whole before after counts = inl (λ e. cc, counts)
ends_fault (end.Refused refusal) before after counts = inl (λ e. cc, counts)
ends_fault end.ReadFault before after counts = inr (refl, counts)
ends_fault end.Limit before after counts = inl (λ e. cc, counts)

pub counts_ended : {before after : ReadingFaults} {names : List (List ℕ)} {files : Option Files} (how : End) (result : Result Status Failed) → before.count ≤ after.count → CountsFault None (Some how) before after → IfOk result (λ s. s ≡ status_of how) → CountsReading names files before after result
counts_ended {before} {after} how result falls counts is = counts_by (status_of how) result falls (ends_fault how before after counts) is

ends_other : (result : Result Status Failed) (ended other : Status) → ended ≢ other → IfOk result (λ s. s ≡ ended) → result ≡ Ok other → ⊥
ends_other (Ok s) ended other differ is e = differ (sym is ∙ ok_same (Ok s) s other refl e)
ends_other (Err x) ended other differ is e = absurd cc

pub ends_not : {h h' : SinkState} {w w' : List ℕ} {result : Result Status Failed} {ended : Status} {line : List ℕ} (other : Status) → ended ≢ other → EndsWith ended h h' w w' result line → result ≡ Ok other → ⊥
ends_not {result = result} {ended} other differ ends e = ends_other result ended other differ ends.status e

pub unopened_other : {h h' : SinkState} {w w' : List ℕ} {result : Result Status Failed} (fault : OpenFault) (other : Status) → status.Memory ≢ other → status.ReadFault ≢ other → EndsUnopened fault h h' w w' result → result ≡ Ok other → ⊥
unopened_other {result = result} fault other no_memory no_fault ends e =
    elim (memory_or fault) [
      | inl is ↦ no_memory (ok_same result status.Memory other (ends.memory is).0 e)
      | inr opened ↦ ends_not other no_fault (ends.other opened) e
    ]

-- ---- runs that did not do everything

pub undone_by : (result : Result Status Failed) (ended : Status) → is_done ended ≡ false → IfOk result (λ s. s ≡ ended) → IsDone result → ⊥
undone_by (Ok s) ended stops is done = let t : true ≡ false = sym done ∙ (ap is_done is ∙ stops) in cc
undone_by (Err e) ended stops is done = done

pub undone_as : (result : Result Status Failed) (ended : Status) → is_done ended ≡ false → result ≡ Ok ended → IsDone result → ⊥
undone_as result ended stops is = undone_by result ended stops (subst (λ (r : Result Status Failed). IfOk r (λ s. s ≡ ended)) (sym is) refl)

pub unopened_undone : {h h' : SinkState} {w w' : List ℕ} (fault : OpenFault) (result : Result Status Failed) → EndsUnopened fault h h' w w' result → IsDone result → ⊥
unopened_undone fault result ends =
    elim (memory_or fault) [
      | inl is ↦ undone_as result status.Memory refl (ends.memory is).0
      | inr opened ↦ undone_by result status.ReadFault refl (ends.other opened).status
    ]

pub unopened_own : {h h' : SinkState} {w w' : List ℕ} {result : Result Status Failed} (fault : OpenFault) → EndsUnopened fault h h' w w' result → IsReadingStatus result
unopened_own {result = result} fault ends =
    elim (memory_or fault) [
      | inl is ↦ subst IsReadingStatus (sym (ends.memory is).0) refl
      | inr opened ↦ own_as result status.ReadFault refl (ends.other opened).status
    ]

-- ---- failures of calls of any result type

pub tells_err : {Y : Type 0} {Outcome : Status → Y → Type 0} {Whole Part : Y → Type 0} {result : Result Status Failed} {e : Failed} → IsErr result → Tells Outcome Whole Part (Err e) → Tells Outcome Whole Part result
tells_err {result = Ok s} err tells = absurd cc
tells_err {result = Err e'} err tells = record { ended = tells.ended; yields = tells.yields; outcome = tells.outcome; whole = tt; part = tells.part }
