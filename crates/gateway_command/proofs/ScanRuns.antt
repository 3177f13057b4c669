-- The run of `gateway`, given what its scan found.
use Rattle.std.proofs.Common.{◌≡◌, ◌≢◌, ℕ, false, List, [], ◌∷◌, Some, None, Result, refl, arith, Ok, inl, Option, Err, inr, sym, subst, true, ap, ◌∙◌, take}
use Rattle.std.specs.Prelude.{IfOk, IsErrOf, IsSome}
use Rattle.avtp_base.specs.declared.failed.FaultPlace.{FaultPlace}
use Rattle.avtp_base.specs.declared.failed.Failed.{Failed}
use Rattle.avtp_base.specs.Faults.{FailsAt, IsOpeningCounted, ReadingFaults}
use Rattle.avtp_base.specs.Files.{Files, IsMissing, KeepsFiles}
use Rattle.avtp_base.specs.States.{ShelfState, SinkState, Asks}
use Rattle.avtp_text.specs.Written.{written}
use Rattle.capture_io.specs.Reads.{OnlyReads}
use Rattle.avtp_words.specs.Grammar.{Turning}
use Rattle.am824_gateway.specs.declared.scan.ScanFault.{ScanFault}
use Rattle.capture_io.specs.declared.end.End.{End}
use Rattle.avtp_base.specs.declared.failed.OpenFault.{OpenFault}
use Rattle.avtp_text.specs.Notices.{read_fault_line}
use Rattle.capture_io.specs.Source.{Sourcing}
use Rattle.capture_io.specs.Formats.{records_in}
use Rattle.capture_io.proofs.Ending.{ends_weaker}
use Rattle.am824_gateway.specs.declared.scan.Shape.{Shape}
use Rattle.avtp_base.specs.Told.{Appends}
use Rattle.capture_io.specs.declared.end.End.TheVariants as end
use Rattle.avtp_base.specs.declared.failed.OpenFault.TheVariants as open_fault
use Rattle.run_report.specs.declared.status.Status.{Status}
use Rattle.run_report.specs.Outcome.{is_done, CountsReading, EndsWith, EndsUnopened, IsOneMissing, AsksFor}
use Rattle.run_report.specs.Runs.{Runs, TellsAll, IsThrough}
use Rattle.run_report.specs.Yield.{HandsNothing, says, Gives}
use Rattle.run_report.proofs.Making.{kept_but, slots_but, part_kept, asks_from, files_from, output_after, part_after, slots_from, told_before}
use Rattle.run_report.proofs.Outcomes.{ends_not, tells_last, undone_by, yield_telling, counts_by, counts_ended, IsCut, missing_none, counts_unopened, unopened_other, unopened_undone, ok_same}
use Rattle.run_report.proofs.Runs.{no_devices, run_asked, tells_all, through_as, run_cut}
use Rattle.run_report.specs.Status.{status_of}
use Rattle.run_report.specs.Endings.{side_line}
use Rattle.run_report.specs.Made.{MakesOutput, CountsWriting}
use Rattle.run_report.proofs.Yields.{part_none, part_text}
use Rattle.run_report.proofs.Files.{missing_before, shown_still}
use Rattle.run_report.specs.declared.status.Status.TheVariants as status
use Rattle.gateway_command.specs.Gateway.{gateway_task, GatewayYields, fault_line, gateway_report, CanTurn, batches_by, records_of, shape_asked, turned_by, FailsAgain}
use Rattle.gateway_command.specs.state.Scanning.{ScansFile}
use Rattle.gateway_command.proofs.GatewayRun.{cut, faulty, turned, unopened}
use Rattle.run_report.proofs.RunReports.{same_run}
use Rattle.run_report.specs.Halt.{no_halt}
use Rattle.gateway_command.specs.declared.scanning.Scanned.{Scanned}
use Rattle.gateway_command.specs.state.Gateway.{TurnedOutcome, is_of_gateway, TurnsFile}
use Rattle.gateway_command.specs.declared.scanning.Scanned.TheVariants as scanned
use Rattle.gateway_command.proofs.TurnedInput.{again_weaker}

-- ---- IN was read, and nothing was made

module _ {s t : ShelfState} {h h' : SinkState} {l l' : List ℕ} {result : Result Status Failed} (asked : Turning) (keeps : OnlyReads s t (asked.input ∷ [])) where
  scan_runs : (ended : Status) (line : List ℕ) → EndsWith ended h h' l l' result line → ((all : Files) → s.files ≡ Some all → GatewayYields asked all (FailsAt s.reading_faults t.reading_faults) (asked.input ∷ []) ended (says line) None)
      → CountsReading (asked.input ∷ []) s.files s.reading_faults t.reading_faults result → is_done ended ≡ false → ended ≢ status.WriteFault → ended ≢ status.Words → ended ≢ status.DeviceFault → Runs (gateway_task asked) HandsNothing false s t h h' l l' result
  scan_runs ended line ends outcome counts stops no_write no_words no_device = record {
    tells = λ all told some.
        tells_all keeps.files
        (run_asked (λ came e yields. GatewayYields asked all (FailsAt s.reading_faults t.reading_faults) came e yields None) (asked.input ∷ [])
        (tells_last (yield_telling (written h.held l) (written h'.held l') line refl) (outcome all told) ends) keeps.asked);
    files = kept_but s.files t.files asked.output keeps.files;
    slots = slots_but t.files s.slots t.slots asked.output keeps.slots;
    counts = counts;
    writing = record { never_falls = omega (arith, keeps.writing); failed = λ e. absurd (ends_not status.WriteFault no_write ends e); other = λ e. keeps.writing; unwritten = λ e. absurd cc };
    no_words = ends_not status.Words no_words ends;
    devices = no_devices refl (ends_not status.DeviceFault no_device ends);
    asks = through_as (ends_not status.DeviceFault no_device ends) (record { count = 1; within = omega arith; all = λ d. absurd (undone_by result ended stops ends.status d); asked = keeps.asked });
    sink = ends.sink;
  }

-- the run if a record cannot be converted
pub faulty_runs : {s t : ShelfState} {h h' : SinkState} {l l' : List ℕ} {result : Result Status Failed} (asked : Turning) (why : ScanFault) (frame : ℕ) → ScansFile asked s t (Ok (scanned.Faulty why frame))
    → EndsWith status.TalkInput h h' l l' result (fault_line (record { frame = frame; fault = why })) → Runs (gateway_task asked) HandsNothing false s t h h' l l' result
faulty_runs {s} {t} {result = result} asked why frame scan ends =
    scan_runs asked scan.keeps status.TalkInput _ ends
    (λ all told. let of = scan.told all told in faulty asked all (FailsAt s.reading_faults t.reading_faults) of.0 (record { frame = frame; fault = why }) of.1 of.2)
    (counts_by status.TalkInput result scan.keeps.reading (inl (λ e. cc, scan.counted)) ends.status) refl (λ e. cc) (λ e. cc) (λ e. cc)

never_end : (how : End) → (status_of how ≢ status.WriteFault) × (status_of how ≢ status.Words) × (status_of how ≢ status.DeviceFault)
never_end end.Whole = (λ e. cc, λ e. cc, λ e. cc)
never_end (end.Refused refusal) = (λ e. cc, λ e. cc, λ e. cc)
never_end end.ReadFault = (λ e. cc, λ e. cc, λ e. cc)
never_end end.Limit = (λ e. cc, λ e. cc, λ e. cc)

stops_end : (how : End) → how ≢ end.Whole → is_done (status_of how) ≡ false
stops_end end.Whole other = absurd (other refl)
stops_end (end.Refused refusal) other = refl
stops_end end.ReadFault other = refl
stops_end end.Limit other = refl

-- the run if the scan was cut short
pub cut_runs : {s t : ShelfState} {h h' : SinkState} {l l' : List ℕ} {result : Result Status Failed} (asked : Turning) (how : End) → ScansFile asked s t (Ok (scanned.Cut how))
    → EndsWith (status_of how) h h' l l' result (side_line asked.listener.limit how) → Runs (gateway_task asked) HandsNothing false s t h h' l l' result
cut_runs {s} {t} {result = result} asked how scan ends =
    let other = scan.cut how refl in
    let never = never_end how in
    scan_runs asked scan.keeps (status_of how) _ ends
    (λ all told. let of = scan.told all told in cut asked all (FailsAt s.reading_faults t.reading_faults) of.0 of.2.0 how of.1 of.2.1 other of.2.2)
    (counts_ended how result scan.keeps.reading scan.counted ends.status) (stops_end how other) never.0 never.1 never.2

-- ---- IN was not opened

unopened_tells : {s t : ShelfState} {h h' : SinkState} {l l' : List ℕ} {result : Result Status Failed} (asked : Turning) (why : OpenFault) (all : Files) → s.files ≡ Some all → OnlyReads s t (asked.input ∷ [])
    → (IsErrOf {T = Sourcing} (Err why) open_fault.Missing → IsMissing s.files asked.input) → IsOpeningCounted {T = Sourcing} s.reading_faults t.reading_faults (Err why) → EndsUnopened why h h' l l' result
    → TellsAll (gateway_task asked) all (FailsAt s.reading_faults t.reading_faults) false HandsNothing s t (written h.held l) (written h'.held l') result
unopened_tells {s} {t} {h} {h'} {l} {l'} {result} asked open_fault.Memory all told keeps missing counted ends =
    let left = ends.memory refl in
    let report = gateway_report asked (all asked.input) no_halt in
    let made = report.made in
    let yields = report.yields in
    let is_cut : IsCut result = subst IsCut (sym left.0) (inl refl) in
    record {
      made = made;
      tells = run_cut (λ came e ys. GatewayYields asked all (FailsAt s.reading_faults t.reading_faults) came e ys made) report.came report.ended yields (no_halt, tt, refl) is_cut (part_none refl yields left.1);
      whole = subst (λ (r : Result Status Failed). IfOk r (λ e. e ≢ status.Memory → e ≢ status.WriteFault → MakesOutput (Some asked.output) made s.files t.files)) (sym left.0) (λ memory write. absurd (memory refl));
      begun = part_kept (Some asked.output) made s.files t.files keeps.files;
    }
unopened_tells {s} {t} {h} {h'} {l} {l'} asked open_fault.Missing all told keeps missing counted ends =
    tells_all keeps.files
    (run_asked (λ came e yields. GatewayYields asked all (FailsAt s.reading_faults t.reading_faults) came e yields None) (asked.input ∷ [])
    (tells_last (yield_telling (written h.held l) (written h'.held l') read_fault_line refl) (unopened asked all (FailsAt s.reading_faults t.reading_faults) (inl (missing_none s.files asked.input all told (missing refl)))) (ends.other (λ e. cc))) keeps.asked)
unopened_tells {s} {t} {h} {h'} {l} {l'} asked open_fault.Failed all told keeps missing counted ends =
    tells_all keeps.files
    (run_asked (λ came e yields. GatewayYields asked all (FailsAt s.reading_faults t.reading_faults) came e yields None) (asked.input ∷ [])
    (tells_last (yield_telling (written h.held l) (written h'.held l') read_fault_line refl) (unopened asked all (FailsAt s.reading_faults t.reading_faults) (inr (counted.failed refl))) (ends.other (λ e. cc))) keeps.asked)

pub unscanned_runs : {s t : ShelfState} {h h' : SinkState} {l l' : List ℕ} {result : Result Status Failed} (asked : Turning) (why : OpenFault) → ScansFile asked s t (Err why) → EndsUnopened why h h' l l' result → Runs (gateway_task asked) HandsNothing false s t h h' l l' result
unscanned_runs {s} {t} {result = result} asked why scan ends =
    let missing : IsErrOf {T = Sourcing} (Err why) open_fault.Missing → IsMissing s.files asked.input = λ is. scan.missing (missing_as why is) in
    let not_failed = unopened_other why status.WriteFault (λ e. cc) (λ e. cc) ends in
    let not_device = unopened_other why status.DeviceFault (λ e. cc) (λ e. cc) ends in
    record {
      tells = λ all told some. unopened_tells asked why all told scan.keeps missing scan.refused ends;
      files = kept_but s.files t.files asked.output scan.keeps.files;
      slots = slots_but t.files s.slots t.slots asked.output scan.keeps.slots;
      counts = counts_unopened {T = Sourcing} why s.reading_faults t.reading_faults s.files asked.input scan.refused missing ends;
      writing = record { never_falls = omega (arith, scan.keeps.writing); failed = λ e. absurd (not_failed e); other = λ e. scan.keeps.writing; unwritten = λ e. absurd cc };
      no_words = unopened_other why status.Words (λ e. cc) (λ e. cc) ends;
      devices = no_devices refl not_device;
      asks = through_as not_device (record { count = 1; within = omega arith; all = λ d. absurd (unopened_undone why result ends d); asked = scan.keeps.asked });
      sink = ends.sink;
    } where
      missing_as : (fault : OpenFault) → IsErrOf {T = Sourcing} (Err fault) open_fault.Missing → IsErrOf {T = Scanned} (Err fault) open_fault.Missing
      missing_as fault is = let e : fault ≡ open_fault.Missing = cc in subst (λ (f : OpenFault). IsErrOf {T = Scanned} (Err f) open_fault.Missing) (sym e) refl

-- ---- OUT was made

outcome_since : (asked : Turning) (all : Files) (shape : Option Shape) (bytes : List ℕ) (a b : FaultPlace → Type 0) (ended : Status) (text : List ℕ) (made : Option (List ℕ)) → ((place : FaultPlace) → a place → b place) → all asked.input ≡ Some bytes
    → CanTurn asked bytes → shape ≡ shape_asked asked (records_of asked bytes) → TurnedOutcome asked shape bytes a ended text made
    → GatewayYields asked all b (asked.input ∷ asked.output ∷ asked.input ∷ []) ended (says text) made
outcome_since asked all shape bytes a b ended text made weaker is can same o =
    let at = turned asked all b bytes o.prefix o.how is can (ends_weaker asked.listener.limit (Some bytes) (FailsAgain bytes a) (FailsAgain bytes b) o.how o.prefix (again_weaker bytes a b weaker) o.ends) in
    let batches = batches_by asked (records_in o.prefix) o.how in
    (at.0, at.1, same_run _ _ ended _ (says text) _ made _ refl o.status (ap says o.printed) o.written ∙ (ap (λ (s : Option Shape). turned_by asked s batches o.how) same ∙ at.2))

own_never : (result : Result Status Failed) (other : Status) → is_of_gateway other ≡ false → IfOk result (λ e. is_of_gateway e ≡ true) → result ≡ Ok other → ⊥
own_never (Ok e) other never own is = let same : e ≡ other = ok_same (Ok e) e other refl is in let t : true ≡ false = sym own ∙ (ap is_of_gateway same ∙ never) in cc
own_never (Err e) other never own is = absurd cc

through_own : (result : Result Status Failed) → IsThrough result → IfOk result (λ e. (e ≢ status.Memory) × (e ≢ status.WriteFault))
through_own (Ok status.Done) through = (λ e. cc, λ e. cc)
through_own (Ok status.Findings) through = (λ e. cc, λ e. cc)
through_own (Ok status.Words) through = (λ e. cc, λ e. cc)
through_own (Ok status.Refused) through = (λ e. cc, λ e. cc)
through_own (Ok status.ReadFault) through = (λ e. cc, λ e. cc)
through_own (Ok status.WriteFault) through = absurd cc
through_own (Ok status.Memory) through = absurd cc
through_own (Ok status.Limit) through = (λ e. cc, λ e. cc)
through_own (Ok status.DeviceFault) through = (λ e. cc, λ e. cc)
through_own (Ok status.TalkInput) through = (λ e. cc, λ e. cc)
through_own (Err e) through = absurd through

-- a file that is missing now was missing before
missing_since : (f g : Option Files) (names : List (List ℕ)) → KeepsFiles f g → IsOneMissing names g → IsOneMissing names f
missing_since f g names keeps one = record { name = one.name; one = one.one; missing = missing_before f g one.name keeps one.missing }

reading_since : {names : List (List ℕ)} {f g : Option Files} {a b c : ReadingFaults} {result : Result Status Failed} → KeepsFiles f g → b ≡ a → CountsReading names g b c result → CountsReading names f a c result
reading_since {names} {f} {g} {a} {b} {c} {result} keeps same counts =
    let at = subst (λ (faults : ReadingFaults). CountsReading names g faults c result) same counts in
    record { never_falls = at.never_falls; fault = λ is. elim (at.fault is) [ inl rose ↦ inl rose | inr one ↦ inr (missing_since f g names keeps one) ]; quiet = at.quiet }

module _ {s t u : ShelfState} {h h' : SinkState} {l l' : List ℕ} {result : Result Status Failed} (asked : Turning) (shape : Option Shape) (apart : asked.input ≢ asked.output) (scan : ScansFile asked s t (Ok (scanned.Clean shape)))
    (turns : TurnsFile asked shape t u h h' l l' result) where
  asks_all : (p : Type 0) → (p → IfOk result (λ e. (e ≢ status.Memory) × (e ≢ status.WriteFault))) → AsksFor (asked.input ∷ asked.output ∷ asked.input ∷ []) s u p
  asks_all p weaker =
      let asks : AsksFor (asked.input ∷ asked.output ∷ asked.input ∷ []) s u (IfOk result (λ e. (e ≢ status.Memory) × (e ≢ status.WriteFault))) = asks_from asked.input scan.keeps.asked turns.asks in
      record { count = asks.count; within = asks.within; all = λ done. asks.all (weaker done); asked = asks.asked }

  -- unless the run was cut short, all names were asked for
  came_all : (r : Result Status Failed) → result ≡ r → IfOk r (λ e. e ≢ status.Memory → e ≢ status.WriteFault → Asks (asked.input ∷ asked.output ∷ asked.input ∷ []) s u)
  came_all (Ok e) is = λ memory write.
      let asks = asks_all (IfOk result (λ x. (x ≢ status.Memory) × (x ≢ status.WriteFault))) (λ p. p) in
      let all : asks.count ≡ 3 = asks.all (subst (λ (r : Result Status Failed). IfOk r (λ x. (x ≢ status.Memory) × (x ≢ status.WriteFault))) (sym is) (memory, write)) in
      subst (λ (n : ℕ). Asks (take n (asked.input ∷ asked.output ∷ asked.input ∷ [])) s u) all asks.asked
  came_all (Err e) is = tt

  told_all : (all : Files) → s.files ≡ Some all → IsSome u.files → TellsAll (gateway_task asked) all (FailsAt s.reading_faults u.reading_faults) false HandsNothing s u (written h.held l) (written h'.held l') result
  told_all all told some =
      let of = scan.told all told in
      let can : CanTurn asked of.0 = record { whole = of.2.0; none = of.2.1 } in
      let now = shown_still s.files t.files all told scan.keeps.files (told_before t.files u.files asked.output turns.files some) in
      let made = turns.told now.0 of.0 now.1 (now.2 asked.input ∙ of.1) some of.2.0 in
      let since : (place : FaultPlace) → FailsAt t.reading_faults u.reading_faults place → FailsAt s.reading_faults u.reading_faults place = λ place. subst (λ (faults : ReadingFaults). FailsAt faults u.reading_faults place) scan.counted in
      record {
        made = made.made;
        tells = record {
          came = asked.input ∷ asked.output ∷ asked.input ∷ [];
          ended = made.tells.ended;
          yields = says made.tells.yields;
          outcome = outcome_since asked all shape of.0 _ _ made.tells.ended made.tells.yields made.made since of.1 can of.2.2 made.tells.outcome;
          whole = whole_at result made.tells.ended made.tells.yields (came_all result refl) made.tells.whole;
          part = part_text refl (says made.tells.yields) made.tells.part;
        };
        whole = made_at result made.made made.whole;
        begun = part_after (Some asked.output) made.made s.files t.files u.files scan.keeps.files made.begun;
      } where
        whole_at : (r : Result Status Failed) (ended : Status) (text : List ℕ) → IfOk r (λ e. e ≢ status.Memory → e ≢ status.WriteFault → Asks (asked.input ∷ asked.output ∷ asked.input ∷ []) s u)
            → IfOk r (λ e. e ≢ status.Memory → e ≢ status.WriteFault → (e ≡ ended) × Appends (written h.held l) (written h'.held l') text)
            → IfOk r (λ e. e ≢ status.Memory → e ≢ status.WriteFault → (e ≡ ended) × Gives HandsNothing (written h.held l) (written h'.held l') (says text) × Asks (asked.input ∷ asked.output ∷ asked.input ∷ []) s u)
        whole_at (Ok e) ended text asks whole = λ memory write. let w = whole memory write in (w.0, record { text = w.1; items = refl }, asks memory write)
        whole_at (Err e) ended text asks whole = tt

        made_at : (r : Result Status Failed) (made : Option (List ℕ)) → IfOk r (λ e. e ≢ status.Memory → e ≢ status.WriteFault → MakesOutput (Some asked.output) made t.files u.files)
            → IfOk r (λ e. e ≢ status.Memory → e ≢ status.WriteFault → MakesOutput (Some asked.output) made s.files u.files)
        made_at (Ok e) made whole = λ memory write. output_after (Some asked.output) made s.files t.files u.files scan.keeps.files (whole memory write)
        made_at (Err e) made whole = tt

  pub clean_runs : Runs (gateway_task asked) HandsNothing false s u h h' l l' result
  clean_runs = record {
    tells = told_all;
    files = files_from s.files t.files u.files asked.output scan.keeps.files turns.files;
    slots = slots_from t.files u.files s.slots t.slots u.slots asked.output turns.files scan.keeps.slots turns.slots;
    counts = reading_since scan.keeps.files scan.counted turns.reading;
    writing = subst (λ (n : ℕ). CountsWriting (Some asked.output) n u.writing_faults result) scan.keeps.writing turns.writing;
    no_words = own_never result status.Words refl turns.own;
    devices = no_devices refl (own_never result status.DeviceFault refl turns.own);
    asks = asks_all (IsThrough result) (through_own result);
    sink = turns.sink;
  }
