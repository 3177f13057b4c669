-- The run of a command.
use Rattle.std.proofs.Common.{◌≡◌, ℕ, List, Option, Result, Ok, Err, inl, inr, None, Some, Bool, refl, true, false, sym, ◌∙◌}
use Rattle.std.specs.Prelude.{◌≢◌, IfOk}
use Rattle.avtp_base.specs.declared.failed.Failed.{Failed}
use Rattle.avtp_base.specs.declared.failed.FaultPlace.{FaultPlace}
use Rattle.avtp_base.specs.States.{Asks, ShelfState}
use Rattle.sample_schedule.specs.declared.shown.Shown.{Shown}
use Rattle.avtp_base.specs.Files.{Files, KeepsFiles}
use Rattle.run_report.specs.declared.status.Status.{Status}
use Rattle.run_report.specs.Outcome.{TellsRun, TellsYield, IsDone, AsksFor}
use Rattle.run_report.specs.Yield.{Yield, Gives, GivesPart}
use Rattle.run_report.proofs.Outcomes.{IsCut}
use Rattle.run_report.specs.Made.{MakesOutput, MakesPart}
use Rattle.run_report.specs.Runs.{Task, TellsAll, IsThrough, TellsDevices}
use Rattle.run_report.specs.declared.status.Status.TheVariants as status

-- ---- one file

pub run_asked : {a b : ShelfState} {before now : Option (List ℕ)} {handed : List Shown → Type 0} {result : Result Status Failed} (Outcome : List (List ℕ) → Status → Yield → Type 0) (came : List (List ℕ)) → TellsYield (Outcome came) handed before now result → Asks came a b
    → TellsRun Outcome handed a b before now result
run_asked {a} {b} {before} {now} {handed} {result} Outcome came t asked = record {
  came = came;
  ended = t.ended;
  yields = t.yields;
  outcome = t.outcome;
  whole = whole_at result t.whole;
  part = t.part;
} where
  whole_at : (r : Result Status Failed) → IfOk r (λ s. s ≢ status.Memory → s ≢ status.WriteFault → (s ≡ t.ended) × Gives handed before now t.yields)
      → IfOk r (λ s. s ≢ status.Memory → s ≢ status.WriteFault → (s ≡ t.ended) × Gives handed before now t.yields × Asks came a b)
  whole_at (Ok s) whole = λ memory write. let w = whole memory write in (w.0, w.1, asked)
  whole_at (Err e) whole = tt

pub run_cut : {a b : ShelfState} {before now : Option (List ℕ)} {handed : List Shown → Type 0} {result : Result Status Failed} (Outcome : List (List ℕ) → Status → Yield → Type 0) (came : List (List ℕ)) (ended : Status) (yields : Yield)
    → Outcome came ended yields → IsCut result → GivesPart handed before now yields → TellsRun Outcome handed a b before now result
run_cut {a} {b} {before} {now} {handed} {result} Outcome came ended yields outcome cut part = record { came = came; ended = ended; yields = yields; outcome = outcome; whole = whole_at result cut; part = part } where
  whole_at : (r : Result Status Failed) → IsCut r → IfOk r (λ s. s ≢ status.Memory → s ≢ status.WriteFault → (s ≡ ended) × Gives handed before now yields × Asks came a b)
  whole_at (Ok s) cut = λ memory write. elim cut [ inl is ↦ absurd (memory is) | inr is ↦ absurd (write is) ]
  whole_at (Err e) cut = tt

-- ---- a command

-- a run that leaves all files unchanged makes no output
makes_nothing : (output : Option (List ℕ)) (f g : Option Files) → KeepsFiles f g → MakesOutput output None f g × MakesPart output None f g
makes_nothing None f g keeps = (keeps, keeps)
makes_nothing (Some name) f g keeps = (keeps, keeps)

pub tells_all : {task : Task} {all : Files} {fault : FaultPlace → Type 0} {failed : Bool} {handed : List Shown → Type 0} {s t : ShelfState} {before now : Option (List ℕ)} {result : Result Status Failed} → KeepsFiles s.files t.files
    → TellsRun (λ came ended yields. task.Comes all fault failed came ended yields None) handed s t before now result → TellsAll task all fault failed handed s t before now result
tells_all {task} {s = s} {t} {result = result} keeps tells = record { made = None; tells = tells; whole = whole_at result; begun = nothing.1 } where
  nothing : MakesOutput task.output None s.files t.files × MakesPart task.output None s.files t.files
  nothing = makes_nothing task.output s.files t.files keeps

  whole_at : (r : Result Status Failed) → IfOk r (λ e. e ≢ status.Memory → e ≢ status.WriteFault → MakesOutput task.output None s.files t.files)
  whole_at (Ok e) = λ memory write. nothing.0
  whole_at (Err e) = tt

through_done : (result : Result Status Failed) → (result ≡ Ok status.DeviceFault → ⊥) → IsThrough result → IsDone result
through_done (Ok status.Done) other through = refl
through_done (Ok status.Findings) other through = refl
through_done (Ok status.Words) other through = through
through_done (Ok status.Refused) other through = through
through_done (Ok status.ReadFault) other through = through
through_done (Ok status.WriteFault) other through = through
through_done (Ok status.Memory) other through = through
through_done (Ok status.Limit) other through = through
through_done (Ok status.DeviceFault) other through = absurd (other refl)
through_done (Ok status.TalkInput) other through = through
through_done (Err e) other through = through

pub through_as : {names : List (List ℕ)} {a b : ShelfState} {result : Result Status Failed} → (result ≡ Ok status.DeviceFault → ⊥) → AsksFor names a b (IsDone result) → AsksFor names a b (IsThrough result)
through_as {result = result} other asks = record { count = asks.count; within = asks.within; all = λ through. asks.all (through_done result other through); asked = asks.asked }

pub no_devices : {task : Task} {failed : Bool} {result : Result Status Failed} → task.listens ≡ false → (result ≡ Ok status.DeviceFault → ⊥) → TellsDevices task failed result
no_devices other never = record { fault = λ e. absurd (never e); quiet = λ listens. absurd (let t : true ≡ false = sym listens ∙ other in cc) }
