-- What a run of a command did, given the task of the run.
use Rattle.std.specs.Prelude.{◌≢◌, ℕ, List, ◌++◌, Option, IfOk, Result, Bool, ◌≡◌, Ok, Err, true, false, Some, IsSome, option_to_list}
use Rattle.avtp_base.specs.declared.failed.Failed.{Failed}
use Rattle.avtp_base.specs.Files.{Files}
use Rattle.avtp_base.specs.States.{ShelfState, SinkState}
use Rattle.sample_schedule.specs.declared.shown.Shown.{Shown}
use Rattle.avtp_base.specs.Faults.{FailsAt}
use Rattle.avtp_base.specs.declared.failed.FaultPlace.{FaultPlace}
use Rattle.avtp_text.specs.Written.{written}
use Rattle.run_report.specs.declared.status.Status.{Status}
use Rattle.run_report.specs.Made.{MakesOutput, MakesPart, KeepsFilesBut, KeepsSlotsFor, CountsWriting}
use Rattle.run_report.specs.Outcome.{TellsRun, is_through, AsksFor, CountsReading, KeepsSink}
use Rattle.run_report.specs.Yield.{Yield}
use Rattle.run_report.specs.declared.status.Status.TheVariants as status

-- What a command is to do. `reads` has the names of the files that are read, in order. `output` is the name of the file
-- that is made, if any. `again` has the names of the files that are read again after the output was made. `listens` says
-- whether items are given to devices. `Comes` gives the possible outcomes of the run: the names that it reaches, its
-- status, its yield, and the capture that it makes, if any. An outcome depends on the files, on the condition for a read
-- fault, and on whether a device failed.
pub record Task : Type 1 where
  pub reads : List (List ℕ)
  pub output : Option (List ℕ)
  pub again : List (List ℕ)
  pub listens : Bool
  pub Comes : Files → (FaultPlace → Type 0) → Bool → List (List ℕ) → Status → Yield → Option (List ℕ) → Type 0

-- The names that a task asks a shelf for, in order: the files that are read, the file that is made, and the files that
-- are read again.
abbrev pub names_in : Task → List (List ℕ)
names_in task = task.reads ++ (option_to_list task.output ++ task.again)

-- What a run printed, gave to devices and made, if a shelf shows its files before and after the run.
pub record TellsAll (task : Task) (all : Files) (fault : FaultPlace → Type 0) (failed : Bool) (handed : List Shown → Type 0) (shelf shelf' : ShelfState) (before now : Option (List ℕ)) (result : Result Status Failed) : Type 0 where
  pub made : Option (List ℕ)
  pub tells : TellsRun (λ came ended yields. task.Comes all fault failed came ended yields made) handed shelf shelf' before now result
  pub whole : IfOk result (λ s. s ≢ status.Memory → s ≢ status.WriteFault → MakesOutput task.output made shelf.files shelf'.files)
  pub begun : MakesPart task.output made shelf.files shelf'.files

-- the command did everything that was asked for, whether or not a device failed
abbrev pub IsThrough : Result Status Failed → Type 0
IsThrough (Ok ended) = is_through ended ≡ true
IsThrough (Err e) = ⊥

-- A run ends with the status `DeviceFault` only if the command is `listen` and a device failed. If a device failed in a
-- run of `listen`, the run does not end with `Done`.
pub record TellsDevices (task : Task) (failed : Bool) (result : Result Status Failed) : Type 0 where
  pub fault : result ≡ Ok status.DeviceFault → (task.listens ≡ true) × (failed ≡ true)
  pub quiet : task.listens ≡ true → result ≡ Ok status.Done → failed ≡ false

-- A run with this task: what the run printed, what it gave to the devices, which names it asked for, and the files, the
-- slots and the counts of faults after the run. `failed` says whether a device failed.
pub record Runs (task : Task) (handed : List Shown → Type 0) (failed : Bool) (shelf shelf' : ShelfState)
    (out out' : SinkState) (waits waits' : List ℕ) (result : Result Status Failed) : Type 0 where
  pub tells : (all : Files) → shelf.files ≡ Some all → IsSome shelf'.files → TellsAll task all (FailsAt shelf.reading_faults shelf'.reading_faults) failed handed shelf shelf' (written out.held waits) (written out'.held waits') result
  pub files : KeepsFilesBut task.output shelf.files shelf'.files
  pub slots : KeepsSlotsFor task.output shelf'.files shelf.slots shelf'.slots
  pub counts : CountsReading task.reads shelf.files shelf.reading_faults shelf'.reading_faults result
  pub writing : CountsWriting task.output shelf.writing_faults shelf'.writing_faults result
  pub no_words : result ≢ Ok status.Words
  pub devices : TellsDevices task failed result
  pub asks : AsksFor (names_in task) shelf shelf' (IsThrough result)
  pub sink : KeepsSink out out' result
