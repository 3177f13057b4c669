-- The run of a command that reads files.
use Rattle.std.proofs.Common.{◌∙◌, ℕ, List, [], ◌∷◌, Option, Result, ◌≡◌, length, take, refl, sym, subst, arith, Bool, None, false, true, Ok, Err}
use Rattle.std.proofs.lemmas.List.{append-nil}
use Rattle.std.specs.Prelude.{◌≢◌, IfOk}
use Rattle.avtp_base.specs.declared.failed.FaultPlace.{FaultPlace}
use Rattle.avtp_base.specs.declared.failed.Failed.{Failed}
use Rattle.avtp_base.specs.States.{Asks, ShelfState, SinkState}
use Rattle.sample_schedule.specs.declared.shown.Shown.{Shown}
use Rattle.avtp_base.specs.Faults.{FailsAt}
use Rattle.capture_io.specs.Reads.{OnlyReads}
use Rattle.avtp_text.specs.Written.{written}
use Rattle.avtp_base.specs.Files.{Files}
use Rattle.avtp_words.specs.Grammar.{Request, files_of, output_of, agree, check, gateway, listen, show, soak, talk}
use Rattle.run_report.specs.declared.status.Status.{Status}
use Rattle.run_report.specs.Outcome.{TellsRun, TellsYield, CountsReading, AsksFor}
use Rattle.run_report.specs.Reading.{PlanOutcome, ReadPlan, DoesFile, DoesFiles, DoesReading}
use Rattle.run_report.specs.Yield.{Yield, Gives, HandsNothing}
use Rattle.run_report.proofs.InOrder.{file_at, one_only, one_outcome}
use Rattle.run_report.proofs.RunReports.{same_run}
use Rattle.run_report.specs.Halt.{CanHalt}
use Rattle.run_report.proofs.Outcomes.{tells_weaker}
use Rattle.run_report.proofs.Runs.{run_asked, tells_all, through_as, no_devices}
use Rattle.run_report.specs.Made.{KeepsFilesBut, KeepsSlotsFor, CountsWriting}
use Rattle.run_report.specs.Runs.{IsThrough, Runs}
use Rattle.run_report.proofs.Leaving.{never_ends, only_read}
use Rattle.run_report.proofs.Yields.{gives_as, part_as}
use Rattle.run_report.specs.declared.status.Status.TheVariants as status
use Rattle.avtp_tool.specs.Run.{again_of, is_listening}
use Rattle.avtp_tool.specs.state.Run.{Outcome, task_of}

single : {a b : ShelfState} {before now : Option (List ℕ)} {handed : List Shown → Type 0} {result : Result Status Failed} (plan : ReadPlan) (files : Files) (fault : FaultPlace → Type 0) (name : List ℕ) → plan.names ≡ name ∷ [] → TellsYield (one_outcome plan files fault name) handed before now result → Asks (name ∷ []) a b
    → TellsRun (PlanOutcome plan files fault) handed a b before now result
single plan files fault name named t asked =
    run_asked (PlanOutcome plan files fault) (name ∷ [])
    (tells_weaker (λ ended yields outcome.
    let at = file_at plan files fault name ended yields outcome in
    (at.halt, subst (λ (ns : List (List ℕ)). CanHalt plan.limit ns files fault at.halt) (sym named) (at.can []), same_run (name ∷ []) _ ended _ yields _ None None refl at.ended_is at.yields_is refl ∙ one_only plan files at.halt name named)) t) asked

pub one_file : {s t : ShelfState} {h h' : SinkState} {l l' : List ℕ} {result : Result Status Failed} {handed : List Shown → Type 0} (plan : ReadPlan) (name : List ℕ) → plan.names ≡ name ∷ []
    → DoesFile (plan.report name) handed plan.limit name s t h h' l l' result → DoesFiles plan handed s t h h' l l' result
one_file {s} {t} {h} {h'} {l} {l'} {result = result} {handed} plan name named does = record {
  tells = λ all told still. single plan all (FailsAt s.reading_faults t.reading_faults) name named (does.tells all told) does.keeps.asked;
  count = length plan.names;
  within = omega arith;
  all = λ done. refl;
  keeps = subst (λ (ns : List (List ℕ)). OnlyReads s t (take (length ns) ns)) (sym named) does.keeps;
  counts = subst (λ (ns : List (List ℕ)). CountsReading ns s.files s.reading_faults t.reading_faults result) (sym named) does.counts;
  own = does.own;
  sink = does.sink;
}

-- each possible outcome of the reading is also an outcome of the request, with no capture made
abbrev pub IsReadingOf : Request → (Files → (FaultPlace → Type 0) → List (List ℕ) → Status → Yield → Type 0) → Type 1
IsReadingOf request Comes = (all : Files) (fault : FaultPlace → Type 0) (failed : Bool) (came : List (List ℕ)) (ended : Status) (yields : Yield) → Comes all fault came ended yields → Outcome request all fault failed came ended yields None

pub reading_runs : {s t : ShelfState} {h h' : SinkState} {l l' : List ℕ} {result : Result Status Failed} {handed : List Shown → Type 0} {Comes : Files → (FaultPlace → Type 0) → List (List ℕ) → Status → Yield → Type 0} {names : List (List ℕ)} (request : Request) (failed : Bool) (other : Request)
    → request ≡ other → IsReadingOf request Comes → is_listening request ≡ false → files_of request ≡ names → output_of request ≡ None → again_of request ≡ [] → DoesReading Comes names handed s t h h' l l' result → Runs (task_of other) handed failed s t h h' l l' result
reading_runs {s} {t} {h} {h'} {l} {l'} {result} {handed} {names = names} request failed other same is deaf named none once does = subst (λ (q : Request). Runs (task_of q) handed failed s t h h' l l' result) same (record {
  tells = λ all told still.
      let to = does.tells all told still in
      tells_all does.keeps.files
      (record { came = to.came; ended = to.ended; yields = to.yields; outcome = is all (FailsAt s.reading_faults t.reading_faults) failed to.came to.ended to.yields to.outcome; whole = to.whole; part = to.part });
  files = subst (λ (o : Option (List ℕ)). KeepsFilesBut o s.files t.files) (sym none) does.keeps.files;
  slots = subst (λ (o : Option (List ℕ)). KeepsSlotsFor o t.files s.slots t.slots) (sym none) does.keeps.slots;
  counts = subst (λ (ns : List (List ℕ)). CountsReading ns s.files s.reading_faults t.reading_faults result) (sym named) does.counts;
  writing = subst (λ (o : Option (List ℕ)). CountsWriting o s.writing_faults t.writing_faults result) (sym none) (only_read does.keeps.writing (never_ends result status.WriteFault refl does.own));
  no_words = never_ends result status.Words refl does.own;
  devices = no_devices deaf (never_ends result status.DeviceFault refl does.own);
  asks = subst (λ (ns : List (List ℕ)). AsksFor ns s t (IsThrough result)) (sym (rw (named, none, once) (append-nil names)))
      (through_as (never_ends result status.DeviceFault refl does.own) (record { count = does.count; within = does.within; all = does.all; asked = does.keeps.asked }));
  sink = does.sink;
})

-- ---- a command that gives nothing to devices

outcome_deaf : (request : Request) (all : Files) (fault : FaultPlace → Type 0) (failed other : Bool) (came : List (List ℕ)) (ended : Status) (yields : Yield) (made : Option (List ℕ)) → is_listening request ≡ false
    → Outcome request all fault failed came ended yields made → Outcome request all fault other came ended yields made
outcome_deaf (show limit file) all fault failed other came ended yields made deaf o = o
outcome_deaf (check limit names) all fault failed other came ended yields made deaf o = o
outcome_deaf (listen asked) all fault failed other came ended yields made deaf o = absurd cc
outcome_deaf (talk asked) all fault failed other came ended yields made deaf o = o
outcome_deaf (soak packets) all fault failed other came ended yields made deaf o = o
outcome_deaf (agree asked) all fault failed other came ended yields made deaf o = o
outcome_deaf (gateway asked) all fault failed other came ended yields made deaf o = o

pub runs_deaf : {s t : ShelfState} {h h' : SinkState} {l l' : List ℕ} {result : Result Status Failed} {handed : List Shown → Type 0} {failed : Bool} (request : Request) → is_listening request ≡ false → handed []
    → Runs (task_of request) HandsNothing false s t h h' l l' result → Runs (task_of request) handed failed s t h h' l l' result
runs_deaf {s = s} {t} {h} {h'} {l} {l'} {result = result} {handed} {failed} request deaf none runs = record {
  tells = λ all told still.
      let so = runs.tells all told still in
      let to = so.tells in
      record {
        made = so.made;
        tells = record {
          came = to.came;
          ended = to.ended;
          yields = to.yields;
          outcome = outcome_deaf request all _ false failed to.came to.ended to.yields so.made deaf to.outcome;
          whole = whole_at result to.came to.ended to.yields to.whole;
          part = part_as nothing to.yields to.part;
        };
        whole = so.whole;
        begun = so.begun;
      };
  files = runs.files;
  slots = runs.slots;
  counts = runs.counts;
  writing = runs.writing;
  no_words = runs.no_words;
  devices = no_devices deaf (λ e. absurd (let never : false ≡ true = (runs.devices.fault e).1 in cc));
  asks = runs.asks;
  sink = runs.sink;
} where
  nothing : (items : List Shown) → HandsNothing items → handed items
  nothing items is = subst handed (sym is) none

  whole_at : (x : Result Status Failed) (came : List (List ℕ)) (ended : Status) (yields : Yield) → IfOk x (λ e. e ≢ status.Memory → e ≢ status.WriteFault → (e ≡ ended) × Gives HandsNothing (written h.held l) (written h'.held l') yields × Asks came s t)
      → IfOk x (λ e. e ≢ status.Memory → e ≢ status.WriteFault → (e ≡ ended) × Gives handed (written h.held l) (written h'.held l') yields × Asks came s t)
  whole_at (Ok e) came ended yields whole = λ memory write. let w = whole memory write in (w.0, gives_as nothing yields w.1, w.2)
  whole_at (Err e) came ended yields whole = tt

pub runs_of : {s t : ShelfState} {h h' : SinkState} {l l' : List ℕ} {result : Result Status Failed} {handed : List Shown → Type 0} {failed : Bool} {request other : Request} → request ≡ other
    → Runs (task_of request) handed failed s t h h' l l' result → Runs (task_of other) handed failed s t h h' l l' result
runs_of {s} {t} {h} {h'} {l} {l'} {result} {handed} {failed} same runs = subst (λ (q : Request). Runs (task_of q) handed failed s t h h' l l' result) same runs
