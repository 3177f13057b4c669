-- The run of `listen` over all its files, and what its last line says of the devices.
use Rattle.std.proofs.Common.{List, ◌++◌, sym, ap, subst, ◌∙◌, ◌≡◌, Bool, true, Result, Ok, false, [], refl, ◌≢◌, ℕ, Option, Err, None, arith, ◌<◌, ◌≤◌}
use Rattle.std.proofs.lemmas.List.{append-nil}
use Rattle.std.specs.Prelude.{IfOk, is_err, IsErr, nat_lt}
use Rattle.std.proofs.lemmas.Bool.{false_from_ne_true, lt-ltb, le-ltb}
use Rattle.sample_schedule.specs.declared.shown.Shown.{Shown}
use Rattle.avtp_base.specs.declared.failed.FaultPlace.{FaultPlace}
use Rattle.avtp_base.specs.declared.failed.Failed.{Failed}
use Rattle.avtp_base.specs.Files.{Files}
use Rattle.avtp_base.specs.States.{Asks, ShelfState, SinkState}
use Rattle.avtp_words.specs.Grammar.{Listening, listen}
use Rattle.avtp_text.specs.Notices.{device_fault_line}
use Rattle.avtp_base.specs.Told.{Appends}
use Rattle.avtp_text.specs.Written.{written}
use Rattle.avtp_base.specs.Faults.{FailsAt}
use Rattle.run_report.specs.Yield.{HandsNothing, says, with_more, Gives, GivesPart, Yield}
use Rattle.run_report.proofs.Yields.{Joins, more_none, part_before, gives_then, part_none, part_then, part_whole}
use Rattle.run_report.specs.declared.status.Status.{Status}
use Rattle.run_report.specs.Outcome.{TellsRun, EndsWith, AsksFor}
use Rattle.run_report.specs.Reading.{PlanOutcome, DoesFiles, DoesReading}
use Rattle.run_report.specs.Runs.{TellsDevices, IsThrough, Runs}
use Rattle.run_report.proofs.Leaving.{never_ends, only_read}
use Rattle.run_report.proofs.Outcomes.{ends_not, sink_then, counts_failed, sink_failed}
use Rattle.run_report.proofs.Runs.{tells_all, through_as}
use Rattle.run_report.specs.declared.status.Status.TheVariants as status
use Rattle.listen_command.specs.Listen.{device_notice, device_status, listen_plan, with_devices}
use Rattle.avtp_tool.specs.state.Run.{Outcome, task_of}

-- what a run of `listen` did, which makes no file
abbrev pub HearsOutcome : Listening → Files → (FaultPlace → Type 0) → Bool → List (List ℕ) → Status → Yield → Type 0
HearsOutcome asked all fault failed came ended yields = Outcome (listen asked) all fault failed came ended yields None

joins_text : (handed : List Shown → Type 0) → Joins handed HandsNothing handed
joins_text handed xs ys first none = subst handed (sym (append-nil xs) ∙ ap (λ (l : List Shown). xs ++ l) (sym none)) first

-- ---- runs where no device failed, or where not everything was done

-- if the run ended with `Done`, no device failed
abbrev pub IsPlain : Bool → Result Status Failed → Type 0
IsPlain failed result = result ≡ Ok status.Done → failed ≡ true → ⊥

plain_status : (failed : Bool) (s : Status) → IsPlain failed (Ok s) → (device_status failed s ≡ s) × (device_notice failed s ≡ [])
plain_status false s plain = (refl, refl)
plain_status true status.Done plain = absurd (plain refl refl)
plain_status true status.Findings plain = (refl, refl)
plain_status true status.Words plain = (refl, refl)
plain_status true status.Refused plain = (refl, refl)
plain_status true status.ReadFault plain = (refl, refl)
plain_status true status.WriteFault plain = (refl, refl)
plain_status true status.Memory plain = (refl, refl)
plain_status true status.Limit plain = (refl, refl)
plain_status true status.DeviceFault plain = (refl, refl)
plain_status true status.TalkInput plain = (refl, refl)

plain_tells : {s t : ShelfState} {handed : List Shown → Type 0} {before now : Option (List ℕ)} (asked : Listening) (all : Files) (fault : FaultPlace → Type 0) (failed : Bool) (result : Result Status Failed) → IsPlain failed result
    → TellsRun (PlanOutcome (listen_plan asked) all fault) handed s t before now result → TellsRun (HearsOutcome asked all fault failed) handed s t before now result
plain_tells {s} {t} {handed} {before} {now} asked all fault failed result plain told = record {
  came = told.came;
  ended = device_status failed told.ended;
  yields = with_more told.yields (says (device_notice failed told.ended));
  outcome = (told.outcome.0, told.outcome.1, ap (with_devices failed) told.outcome.2);
  whole = whole_at result plain told.whole;
  part = part_before told.yields (says (device_notice failed told.ended)) told.part;
} where
  whole_at : (r : Result Status Failed) → IsPlain failed r → IfOk r (λ e. e ≢ status.Memory → e ≢ status.WriteFault → (e ≡ told.ended) × Gives handed before now told.yields × Asks told.came s t)
      → IfOk r (λ e. e ≢ status.Memory → e ≢ status.WriteFault → (e ≡ device_status failed told.ended) × Gives handed before now (with_more told.yields (says (device_notice failed told.ended))) × Asks told.came s t)
  whole_at (Ok ended) plain whole = λ memory write.
      let w = whole memory write in
      let is = plain_status failed told.ended (λ e. plain (ap (λ (x : Status). Ok x) w.0 ∙ e)) in
      let same : with_more told.yields (says (device_notice failed told.ended)) ≡ told.yields = ap (λ (line : List ℕ). with_more told.yields (says line)) is.1 ∙ more_none told.yields in
      (w.0 ∙ sym is.0, subst (Gives handed before now) (sym same) w.1, w.2)
  whole_at (Err e) plain whole = tt

-- ---- a device failed, and everything else was done

noticed : (failed : Bool) (ended : Status) → failed ≡ true → status.Done ≡ ended → (status.DeviceFault ≡ device_status failed ended) × (device_fault_line ≡ device_notice failed ended)
noticed failed ended is done = rw (is, sym done) (refl, refl)

module _ {s t : ShelfState} {handed : List Shown → Type 0} {before : Option (List ℕ)} {h h' : SinkState} {l l' : List ℕ} (asked : Listening) (all : Files) (fault : FaultPlace → Type 0) (failed : Bool) where
  fault_tells : (result : Result Status Failed) → failed ≡ true → EndsWith status.DeviceFault h h' l l' result device_fault_line
      → TellsRun (PlanOutcome (listen_plan asked) all fault) handed s t before (written h.held l) (Ok status.Done) → TellsRun (HearsOutcome asked all fault failed) handed s t before (written h'.held l') result
  fault_tells result is last told =
      let w = told.whole (λ e. cc) (λ e. cc) in
      let said = noticed failed told.ended is w.0 in
      record {
        came = told.came;
        ended = device_status failed told.ended;
        yields = with_more told.yields (says (device_notice failed told.ended));
        outcome = (told.outcome.0, told.outcome.1, ap (with_devices failed) told.outcome.2);
        whole = whole_at result last said w.1 w.2;
        part = part_at result last said w.1;
      } where
        Said : Type 0
        Said = (status.DeviceFault ≡ device_status failed told.ended) × (device_fault_line ≡ device_notice failed told.ended)

        line_given : Said → Appends (written h.held l) (written h'.held l') device_fault_line → Gives HandsNothing (written h.held l) (written h'.held l') (says (device_notice failed told.ended))
        line_given said grown = record { text = subst (Appends (written h.held l) (written h'.held l')) said.1 grown; items = refl }

        whole_at : (r : Result Status Failed) → EndsWith status.DeviceFault h h' l l' r device_fault_line → Said → Gives handed before (written h.held l) told.yields → Asks told.came s t
            → IfOk r (λ e. e ≢ status.Memory → e ≢ status.WriteFault → (e ≡ device_status failed told.ended) × Gives handed before (written h'.held l') (with_more told.yields (says (device_notice failed told.ended))) × Asks told.came s t)
        whole_at (Ok ended) last said given asks = λ memory write. (last.status ∙ said.0, gives_then (joins_text handed) told.yields (says (device_notice failed told.ended)) given (line_given said last.written), asks)
        whole_at (Err e) last said given asks = tt

        part_at : (r : Result Status Failed) → EndsWith status.DeviceFault h h' l l' r device_fault_line → Said → Gives handed before (written h.held l) told.yields → GivesPart handed before (written h'.held l') (with_more told.yields (says (device_notice failed told.ended)))
        part_at (Ok ended) last said given = part_whole _ (gives_then (joins_text handed) told.yields (says (device_notice failed told.ended)) given (line_given said last.written))
        part_at (Err e) last said given = part_then (joins_text handed) told.yields (says (device_notice failed told.ended)) given (part_none refl (says (device_notice failed told.ended)) last.written)

-- ---- the run

tells_plain : (asked : Listening) (failed : Bool) (result : Result Status Failed) → IsPlain failed result → (result ≡ Ok status.DeviceFault → ⊥) → TellsDevices (task_of (listen asked)) failed result
tells_plain asked failed result plain never = record { fault = λ e. absurd (never e); quiet = λ listens done. false_from_ne_true failed (plain done) }

module _ {s t : ShelfState} {h h' : SinkState} {l l' : List ℕ} {handed : List Shown → Type 0} (asked : Listening) (failed : Bool) where
  pub plain_runs : (read result : Result Status Failed) → read ≡ result → IsPlain failed result → DoesFiles (listen_plan asked) handed s t h h' l l' read → Runs (task_of (listen asked)) handed failed s t h h' l l' result
  plain_runs read result same plain did =
      let does = subst (DoesFiles (listen_plan asked) handed s t h h' l l') same did in
      let never = never_ends result status.DeviceFault refl does.own in
      record {
        tells = λ all told still. tells_all does.keeps.files (plain_tells asked all (FailsAt s.reading_faults t.reading_faults) failed result plain (does.tells all told still));
        files = does.keeps.files;
        slots = does.keeps.slots;
        counts = does.counts;
        writing = only_read does.keeps.writing (never_ends result status.WriteFault refl does.own);
        no_words = never_ends result status.Words refl does.own;
        devices = tells_plain asked failed result plain never;
        asks = subst (λ (ns : List (List ℕ)). AsksFor ns s t (IsThrough result)) (sym (append-nil asked.files)) (through_as never (record { count = does.count; within = does.within; all = does.all; asked = does.keeps.asked }));
        sink = does.sink;
      }

  pub fault_runs : {h'' : SinkState} {l'' : List ℕ} (read result : Result Status Failed) → read ≡ Ok status.Done → failed ≡ true → EndsWith status.DeviceFault h' h'' l' l'' result device_fault_line
      → DoesFiles (listen_plan asked) handed s t h h' l l' read → Runs (task_of (listen asked)) handed failed s t h h'' l l'' result
  fault_runs read result done is last did =
      let does = subst (DoesFiles (listen_plan asked) handed s t h h' l l') done did in
      let still : t.reading_faults ≡ s.reading_faults = does.counts.quiet (λ e. cc) (λ e. cc) (λ e. cc) in
      record {
        tells = λ all told still. tells_all does.keeps.files (fault_tells asked all (FailsAt s.reading_faults t.reading_faults) failed result is last (does.tells all told still));
        files = does.keeps.files;
        slots = does.keeps.slots;
        counts = record { never_falls = omega (arith, still); fault = λ e. absurd (ends_not status.ReadFault (λ x. cc) last e); quiet = quiet_at result still };
        writing = only_read does.keeps.writing (ends_not status.WriteFault (λ x. cc) last);
        no_words = ends_not status.Words (λ x. cc) last;
        devices = record { fault = λ e. (refl, is); quiet = λ listens e. absurd (ends_not status.Done (λ x. cc) last e) };
        asks = subst (λ (ns : List (List ℕ)). AsksFor ns s t (IsThrough result)) (sym (append-nil asked.files)) (record { count = does.count; within = does.within; all = λ through. does.all refl; asked = does.keeps.asked });
        sink = sink_then does.sink last.sink;
      } where
        quiet_at : (x : Result Status Failed) → t.reading_faults ≡ s.reading_faults → IfOk x (λ e. e ≢ status.ReadFault → e ≢ status.Memory → e ≢ status.WriteFault → t.reading_faults ≡ s.reading_faults)
        quiet_at (Ok ended) same = λ fault memory write. same
        quiet_at (Err e) same = tt

pub err_plain : (failed : Bool) (result : Result Status Failed) → IsErr result → IsPlain failed result
err_plain failed (Ok s) err = absurd cc
err_plain failed (Err e) err = λ done is. absurd (let same : is_err {T = Status} (Err e) ≡ is_err {E = Failed} (Ok status.Done) = ap is_err done in cc)

pub less_is : {a b x y : ℕ} → a ≡ x → b ≡ y → a < b → nat_lt x y ≡ true
less_is first second less = rw (sym first, sym second) (lt-ltb _ _ less)

pub more_is : {a b x y : ℕ} → a ≡ x → b ≡ y → b ≤ a → nat_lt x y ≡ true → ⊥
more_is first second more is = let t : false ≡ true = sym (rw (sym first, sym second) (le-ltb _ _ more)) ∙ is in cc

pub failed_as : {h h' : SinkState} {l l' : List ℕ} {Comes : Files → (FaultPlace → Type 0) → List (List ℕ) → Status → Yield → Type 0} {names : List (List ℕ)} {s t : ShelfState} {handed : List Shown → Type 0} {e : Failed} (result : Result Status Failed) → IsErr result
    → DoesReading Comes names handed s t h h' l l' (Err e) → DoesReading Comes names handed s t h h' l l' result
failed_as (Ok ended) err does = absurd cc
failed_as (Err e') err does = record {
  tells = λ all told still. let to = does.tells all told still in record { came = to.came; ended = to.ended; yields = to.yields; outcome = to.outcome; whole = tt; part = to.part };
  count = does.count;
  within = does.within;
  all = λ done. absurd done;
  keeps = does.keeps;
  counts = counts_failed e' does.keeps.reading;
  own = tt;
  sink = sink_failed err does.sink;
}
