-- The files of a run are read one after another, from the first file to the last.
use Rattle.std.proofs.Common.{◌≡◌, ℕ, zero, suc, ◌+◌, ◌<◌, List, [], ◌∷◌, ◌++◌, length, take, drop, get_or, refl, ap, arith, ◌∙◌, sym, Option, Some, None, true, false, ◌≤◌, Result, Ok, Err, inl, inr, subst}
use Rattle.std.specs.Prelude.{String, string_bytes, IsSome, ◌≢◌, Contains, IfOk, IsErr}
use Rattle.std.specs.declared.alloc.Global.{Global}
use Rattle.std.proofs.lemmas.List.Elements.{Contains-append_left, Contains-append_right}
use Rattle.std.proofs.lemmas.List.{take_all}
use Rattle.option_words.specs.Word.{texts}
use Rattle.avtp_base.specs.Files.{Files, KeepsFiles, IsMissing}
use Rattle.avtp_base.specs.Faults.{FailsAt, HasOneMore, ReadingFaults}
use Rattle.sample_schedule.specs.declared.shown.Shown.{Shown}
use Rattle.avtp_base.specs.States.{ShelfState, SinkState, WasAsked}
use Rattle.capture_io.specs.Reads.{OnlyReads}
use Rattle.avtp_base.proofs.Told.{Appends-nil}
use Rattle.capture_io.proofs.Leaving.{only_reads_nothing, only_reads_then}
use Rattle.avtp_base.specs.declared.failed.Failed.{Failed}
use Rattle.avtp_text.specs.Written.{written}
use Rattle.run_report.specs.declared.status.Status.{Status}
use Rattle.run_report.specs.Reading.{in_order_read, in_order_status, in_order_yield, plan_report, ReadPlan, joined, DoesFile, DoesFiles, is_of_reading, Report}
use Rattle.run_report.specs.Yield.{Yield, Gives, HandsNothing}
use Rattle.avtp_tool.specs.declared.files.Reading.{Reading}
use Rattle.avtp_tool.specs.declared.files.Reading.TheVariants.{Check, Listen}
use Rattle.avtp_tool.specs.state.Files.{plan_for}
use Rattle.run_report.specs.Outcome.{is_done, CountsReading, TellsYield, IsDone, KeepsSink}
use Rattle.run_report.proofs.InOrder.{all_done, IsReadTo, one_outcome, StopsAll, tells_done, tells_stopped}
use Rattle.run_report.proofs.RunReports.{same_run}
use Rattle.run_report.specs.Halt.{no_halt}
use Rattle.run_report.proofs.Yields.{Joins, part_whole, gives_as, part_as}
use Rattle.run_report.proofs.Outcomes.{sink_then, sink_ok, counts_failed, sink_failed, tells_err}
use Rattle.run_report.specs.declared.status.Status.TheVariants as status

-- ---- names

names_split : (files : List (String Global)) (i : ℕ) (d : String Global) → i < length files → texts files ≡ take i (texts files) ++ string_bytes (get_or files i d) ∷ drop (suc i) (texts files)
names_split [] i d lt = absurd (omega (arith, lt))
names_split (x ∷ files) zero d lt = refl
names_split (x ∷ files) (suc i) d lt = ap (λ (ns : List (List ℕ)). string_bytes x ∷ ns) (names_split files i d (omega (arith, lt)))

names_more : (files : List (String Global)) (i : ℕ) (d : String Global) → i < length files → take i (texts files) ++ string_bytes (get_or files i d) ∷ [] ≡ take (i + 1) (texts files)
names_more [] i d lt = absurd (omega (arith, lt))
names_more (x ∷ files) zero d lt = refl
names_more (x ∷ files) (suc i) d lt =
    let more : suc (i + 1) ≡ suc i + 1 = omega arith in
    ap (λ (ns : List (List ℕ)). string_bytes x ∷ ns) (names_more files i d (omega (arith, lt))) ∙ ap (λ (n : ℕ). take n (texts (x ∷ files))) more

names_count : (files : List (String Global)) → length (texts files) ≡ length files
names_count [] = refl
names_count (x ∷ files) = let rest = names_count files in omega (arith, rest)

split_named : (files : List (String Global)) (i : ℕ) (d : String Global) (name : List ℕ) → i < length files → string_bytes (get_or files i d) ≡ name → texts files ≡ take i (texts files) ++ name ∷ drop (suc i) (texts files)
split_named files i d name within is = names_split files i d within ∙ ap (λ (n : List ℕ). take i (texts files) ++ n ∷ drop (suc i) (texts files)) is

more_named : (files : List (String Global)) (i : ℕ) (d : String Global) (name : List ℕ) → i < length files → string_bytes (get_or files i d) ≡ name → take i (texts files) ++ name ∷ [] ≡ take (i + 1) (texts files)
more_named files i d name within is = ap (λ (n : List ℕ). take i (texts files) ++ n ∷ []) (sym is) ∙ names_more files i d within

-- ---- files that a shelf shows

told_still : (b c : Option Files) → KeepsFiles b c → IsSome c → IsSome b
told_still None None keeps some = some
told_still None (Some c) keeps some = absurd keeps
told_still (Some b) c keeps some = refl

told_later : (a b : Option Files) (all : Files) → a ≡ Some all → KeepsFiles a b → IsSome b → (later : Files) × (b ≡ Some later) × ((name : List ℕ) → later name ≡ all name)
told_later None b all is keeps some = absurd cc
told_later (Some a) None all is keeps some = absurd cc
told_later (Some a) (Some b) all is keeps some = let same : a ≡ all = cc in (b, refl, λ name. keeps name ∙ ap (λ (m : Files). m name) same)

missing_before : (a b : Option Files) (name : List ℕ) → KeepsFiles a b → IsMissing b name → IsMissing a name
missing_before None None name keeps missing = missing
missing_before None (Some b) name keeps missing = absurd keeps
missing_before (Some a) None name keeps missing = absurd missing
missing_before (Some a) (Some b) name keeps missing = sym (keeps name) ∙ missing

-- ---- so far

-- If the shelf shows its files, the files `names` were read to their ends. The files `names` are the first files of the
-- plan. The run so far left all else unchanged.
pub record ReadsTo (plan : ReadPlan) (handed : List Shown → Type 0) (names : List (List ℕ)) (ended : Status) (s t : ShelfState) (old now : Option (List ℕ)) : Type 0 where
  pub done : is_done ended ≡ true
  pub reading : t.reading_faults ≡ s.reading_faults
  pub keeps : OnlyReads s t names
  pub tells : (all : Files) → s.files ≡ Some all → IsSome t.files → IsReadTo plan handed all names ended old now

nothing_read : {now : Option (List ℕ)} {handed : List Shown → Type 0} (plan : ReadPlan) (all : Files) → handed [] → IsReadTo plan handed all [] status.Done now now
unfolding in_order_read in_order_status in_order_yield
nothing_read {now} plan all none = record { read = refl; ended_is = refl; gives = record { text = Appends-nil now; items = none } }

pub reads_none : {s : ShelfState} {now : Option (List ℕ)} {handed : List Shown → Type 0} (plan : ReadPlan) → handed [] → ReadsTo plan handed [] status.Done s s now now
reads_none {s} {now} plan none = record {
  done = refl;
  reading = refl;
  keeps = only_reads_nothing s;
  tells = λ all told some. nothing_read plan all none;
}

-- ---- one more file

not_done : (s other : Status) → is_done s ≡ true → is_done other ≡ false → s ≢ other
not_done s other goes stops e = let t : false ≡ true = sym stops ∙ (ap is_done (sym e) ∙ goes) in cc

counts_step : {f h : Option Files} {r q r' : ReadingFaults} (result : Result Status Failed) (names earlier later : List (List ℕ)) (name : List ℕ) → names ≡ earlier ++ name ∷ later → KeepsFiles f h → q ≡ r
    → CountsReading (name ∷ []) h q r' result → CountsReading names f r r' result
counts_step {f} {h} {r} {q} {r'} result names earlier later name split keeps same counts = record {
  never_falls = subst (λ (faults : ReadingFaults). faults.count ≤ r'.count) same counts.never_falls;
  fault = λ e. elim (counts.fault e) [
    | inl once ↦ inl (subst (λ (faults : ReadingFaults). HasOneMore faults r') same once)
    | inr one ↦ inr (record {
      name = one.name;
      one = subst (λ (ns : List (List ℕ)). Contains ns one.name) (sym split) (Contains-append_right earlier (name ∷ later) one.name (Contains-append_left (name ∷ []) later one.name one.one));
      missing = missing_before f h one.name keeps one.missing;
    })
  ];
  quiet = quiet_at result counts.quiet;
} where
  quiet_at : (x : Result Status Failed) → IfOk x (λ s. s ≢ status.ReadFault → s ≢ status.Memory → s ≢ status.WriteFault → r' ≡ q) → IfOk x (λ s. s ≢ status.ReadFault → s ≢ status.Memory → s ≢ status.WriteFault → r' ≡ r)
  quiet_at (Ok s) quiet = λ fault memory write. quiet fault memory write ∙ same
  quiet_at (Err e) quiet = tt

tells_step : (q r r' : ReadingFaults) {mid now : Option (List ℕ)} {handed : List Shown → Type 0} {result : Result Status Failed} (plan : ReadPlan) (all later : Files) (name : List ℕ) → later name ≡ all name → q ≡ r
    → TellsYield (one_outcome plan later (FailsAt q r') name) handed mid now result → TellsYield (one_outcome plan all (FailsAt r r') name) handed mid now result
tells_step q r r' {mid} {now} {handed} {result} plan all later name is same tells =
    subst (λ (faults : ReadingFaults). TellsYield (one_outcome plan all (FailsAt faults r') name) handed mid now result) same
    (subst (λ (t : Option (List ℕ)). TellsYield (one_outcome plan (λ (n : List ℕ). t) (FailsAt q r') name) handed mid now result) is tells)

keeps_more : {s t u : ShelfState} (files : List (String Global)) (i : ℕ) (d : String Global) (name : List ℕ) → i < length files → string_bytes (get_or files i d) ≡ name
    → OnlyReads s t (take i (texts files)) → OnlyReads t u (name ∷ []) → OnlyReads s u (take (i + 1) (texts files))
keeps_more {s} {t} {u} files i d name within is first second =
    subst (OnlyReads s u) (more_named files i d name within is)
    (only_reads_then s t u (take i (texts files)) (name ∷ []) first second)

pub reads_more : {s t u : ShelfState} {before : Option (List ℕ)} {h' h'' : SinkState} {l' l'' : List ℕ} {so_far : Status} {result : Result Status Failed} {earlier handed all_handed : List Shown → Type 0} (plan : ReadPlan) (files : List (String Global)) (i : ℕ) (d : String Global) (name : List ℕ)
    (ended : Status) → StopsAll plan → Joins earlier handed all_handed → i < length files → string_bytes (get_or files i d) ≡ name → is_done ended ≡ true → result ≡ Ok ended → ReadsTo plan earlier (take i (texts files)) so_far s t before (written h'.held l')
    → DoesFile (plan.report name) handed plan.limit name t u h' h'' l' l'' result → ReadsTo plan all_handed (take (i + 1) (texts files)) (joined so_far ended) s u before (written h''.held l'')
reads_more {s} {t} {u} {before} {h'} {h''} {l'} {l''} {so_far = so_far} {result} {earlier} {handed} {all_handed} plan files i d name ended stops join within is goes same first second =
    let keeps = keeps_more files i d name within is first.keeps second.keeps in
    let here = subst (λ (x : Result Status Failed). IfOk x (λ e. e ≢ status.ReadFault → e ≢ status.Memory → e ≢ status.WriteFault → u.reading_faults ≡ t.reading_faults)) same second.counts.quiet in
    record {
      done = all_done so_far ended first.done goes;
      reading = here (not_done ended status.ReadFault goes refl) (not_done ended status.Memory goes refl) (not_done ended status.WriteFault goes refl) ∙ first.reading;
      keeps = keeps;
      tells = λ all told still.
          let some = told_still t.files u.files second.keeps.files still in
          let later = told_later s.files t.files all told first.keeps.files some in
          let to = first.tells all told some in
          let tells = subst (λ (x : Result Status Failed). TellsYield (one_outcome plan all (FailsAt s.reading_faults u.reading_faults) name) handed (written h'.held l') (written h''.held l'') x) same (tells_step t.reading_faults s.reading_faults u.reading_faults plan all later.0 name (later.2 name) first.reading (second.tells later.0 later.1)) in
          subst (λ (ns : List (List ℕ)). IsReadTo plan all_handed all ns (joined so_far ended) before (written h''.held l'')) (more_named files i d name within is)
          (tells_done before (written h'.held l') (written h''.held l'') plan all (FailsAt s.reading_faults u.reading_faults) (take i (texts files)) name so_far ended stops join first.done goes to tells);
    }

pub reads_stopped : {s t u : ShelfState} {k h' h'' : SinkState} {l l' l'' : List ℕ} {so_far : Status} {result : Result Status Failed} {earlier handed all_handed : List Shown → Type 0} (plan : ReadPlan) (files : List (String Global)) (i : ℕ) (d : String Global) (name : List ℕ)
    → Joins earlier handed all_handed → plan.names ≡ texts files → i < length files → string_bytes (get_or files i d) ≡ name → (IsDone result → ⊥) → ReadsTo plan earlier (take i (texts files)) so_far s t (written k.held l) (written h'.held l')
    → KeepsSink {T = Unit} k h' (Ok tt) → DoesFile (plan.report name) handed plan.limit name t u h' h'' l' l'' result → DoesFiles plan all_handed s u k h'' l l'' result
reads_stopped {s} {t} {u} {so_far = so_far} {result} plan files i d name join named within is stopped first sink second =
    let before_it = take i (texts files) in
    let rest = drop (suc i) (texts files) in
    let split = named ∙ split_named files i d name within is in
    let keeps = keeps_more files i d name within is first.keeps second.keeps in
    let all_names = names_count files in
    record {
      tells = λ all told still.
          let some = told_still t.files u.files second.keeps.files still in
          let later = told_later s.files t.files all told first.keeps.files some in
          let to = first.tells all told some in
          tells_stopped plan all (FailsAt s.reading_faults u.reading_faults) before_it rest name so_far join split first.done to (tells_step t.reading_faults s.reading_faults u.reading_faults plan all later.0 name (later.2 name) first.reading (second.tells later.0 later.1)) stopped
          (λ names stands. subst (λ (ns : List (List ℕ)). WasAsked u.asked (names ++ ns)) (sym (more_named files i d name within is)) (keeps.asked names stands));
      count = i + 1;
      within = subst (λ (ns : List (List ℕ)). i + 1 ≤ length ns) (sym named) (omega (arith, within, all_names));
      all = λ done. absurd (stopped done);
      keeps = subst (λ (ns : List (List ℕ)). OnlyReads s u (take (i + 1) ns)) (sym named) keeps;
      counts = counts_step result plan.names before_it rest name split first.keeps.files first.reading second.counts;
      own = second.own;
      sink = sink_then sink second.sink;
    }

done_reads : (ended : Status) → is_done ended ≡ true → is_of_reading ended ≡ true
done_reads status.Done done = refl
done_reads status.Findings done = refl
done_reads status.Words done = absurd cc
done_reads status.Refused done = refl
done_reads status.ReadFault done = refl
done_reads status.WriteFault done = absurd cc
done_reads status.Memory done = refl
done_reads status.Limit done = refl
done_reads status.DeviceFault done = absurd cc
done_reads status.TalkInput done = absurd cc

pub reads_all : {s t : ShelfState} {h h' : SinkState} {l l' : List ℕ} {handed : List Shown → Type 0} (plan : ReadPlan) (files : List (String Global)) (i : ℕ) (ended : Status) → plan.names ≡ texts files → length files ≤ i
    → ReadsTo plan handed (take i (texts files)) ended s t (written h.held l) (written h'.held l') → KeepsSink {T = Unit} h h' (Ok tt) → DoesFiles plan handed s t h h' l l' (Ok ended)
reads_all {s} {t} {h} {h'} {l} {l'} {handed = handed} plan files i ended named past to sink =
    let count = names_count files in
    let whole : take i (texts files) ≡ plan.names = take_all i (texts files) (omega (arith, count, past)) ∙ sym named in
    let keeps = subst (OnlyReads s t) whole to.keeps in
    record {
      tells = λ all told still.
          let read = subst (λ (ns : List (List ℕ)). IsReadTo plan handed all ns ended (written h.held l) (written h'.held l')) whole (to.tells all told still) in
          let yields = (plan_report plan all no_halt).yields in
          record { came = plan.names; ended = ended; yields = yields; outcome = (no_halt, tt, same_run plan.names _ ended _ yields _ None None (sym read.read) read.ended_is refl refl); whole = λ memory write. (refl, read.gives, keeps.asked); part = part_whole yields read.gives };
      count = length plan.names;
      within = omega arith;
      all = λ done. refl;
      keeps = subst (OnlyReads s t) (sym (take_all (length plan.names) plan.names (omega arith))) keeps;
      counts = record { never_falls = omega (arith, to.reading); fault = λ e. absurd (not_done ended status.ReadFault to.done refl cc); quiet = λ fault memory write. to.reading };
      own = done_reads ended to.done;
      sink = sink_ok ended sink;
    }

-- ---- a failed write

pub never_done : (result : Result Status Failed) → IsErr result → IsDone result → ⊥
never_done (Ok s) err done = absurd cc
never_done (Err e) err done = done

-- if a run ends with a status other than `Done` or `Findings`, the run is not done
pub other_ends : (s : Status) → s ≢ status.Done → s ≢ status.Findings → IsDone (Ok s) → ⊥
other_ends status.Done done findings is = done refl
other_ends status.Findings done findings is = findings refl
other_ends status.Words done findings is = absurd cc
other_ends status.Refused done findings is = absurd cc
other_ends status.ReadFault done findings is = absurd cc
other_ends status.WriteFault done findings is = absurd cc
other_ends status.Memory done findings is = absurd cc
other_ends status.Limit done findings is = absurd cc
other_ends status.DeviceFault done findings is = absurd cc
other_ends status.TalkInput done findings is = absurd cc

pub does_failed : {report : Report} {limit : ℕ} {name : List ℕ} {s t : ShelfState} {h h' : SinkState} {l l' : List ℕ} {e : Failed} {handed : List Shown → Type 0} (result : Result Status Failed) → IsErr result
    → DoesFile report handed limit name s t h h' l l' (Err e) → DoesFile report handed limit name s t h h' l l' result
does_failed (Ok ended) err does = absurd cc
does_failed (Err e') err does = record { tells = λ all told. tells_err err (does.tells all told); keeps = does.keeps; counts = counts_failed e' does.keeps.reading; own = tt; sink = sink_failed err does.sink }

pub does_deaf : {report : Report} {limit : ℕ} {name : List ℕ} {s t : ShelfState} {h h' : SinkState} {l l' : List ℕ} {result : Result Status Failed} {handed : List Shown → Type 0} → handed []
    → DoesFile report HandsNothing limit name s t h h' l l' result → DoesFile report handed limit name s t h h' l l' result
does_deaf {h = h} {h'} {l} {l'} {result = result} {handed} none does = record {
  tells = λ all told.
      let to = does.tells all told in
      record { ended = to.ended; yields = to.yields; outcome = to.outcome; whole = whole_at result to.ended to.yields to.whole; part = part_as nothing to.yields to.part };
  keeps = does.keeps;
  counts = does.counts;
  own = does.own;
  sink = does.sink;
} where
  nothing : (items : List Shown) → HandsNothing items → handed items
  nothing items is = subst handed (sym is) none

  whole_at : (x : Result Status Failed) (ended : Status) (yields : Yield) → IfOk x (λ s. s ≢ status.Memory → s ≢ status.WriteFault → (s ≡ ended) × Gives HandsNothing (written h.held l) (written h'.held l') yields)
      → IfOk x (λ s. s ≢ status.Memory → s ≢ status.WriteFault → (s ≡ ended) × Gives handed (written h.held l) (written h'.held l') yields)
  whole_at (Ok s) ended yields whole = λ memory write. let w = whole memory write in (w.0, gives_as nothing yields w.1)
  whole_at (Err e) ended yields whole = tt

-- a file whose reading a read fault stopped is not done
pub stops_all : (reading : Reading) (names : List (List ℕ)) → StopsAll (plan_for reading names)
stops_all (Check limit) names name records = refl
stops_all (Listen asked) names name records = refl
