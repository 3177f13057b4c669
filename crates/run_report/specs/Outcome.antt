-- The possible outcomes of a command's run: its status, and what it yields.
use Rattle.std.specs.Prelude.{Bool, true, false, ◌≡◌, ℕ, List, Option, Contains, ◌≤◌, length, take, Result, Ok, Err, ◌≢◌, IfOk, MatchResult, ◌⊎◌}
use Rattle.avtp_base.specs.Files.{Files, IsMissing}
use Rattle.avtp_base.specs.States.{Asks, ShelfState, SinkState}
use Rattle.avtp_base.specs.declared.failed.Failed.{Failed}
use Rattle.avtp_base.specs.Told.{Appends, Keeps}
use Rattle.avtp_text.specs.Written.{AppendsPrefix, Grows, written}
use Rattle.sample_schedule.specs.declared.shown.Shown.{Shown}
use Rattle.avtp_base.specs.Faults.{HasOneMore, IsCounted, ReadingFaults}
use Rattle.avtp_base.specs.declared.failed.OpenFault.{OpenFault}
use Rattle.avtp_text.specs.Notices.{read_fault_line}
use Rattle.avtp_base.specs.declared.failed.OpenFault.TheVariants as open_fault
use Rattle.run_report.specs.declared.status.Status.{Status}
use Rattle.run_report.specs.Yield.{Yield, Gives, GivesPart}
use Rattle.run_report.specs.declared.status.Status.TheVariants as status

-- ---- the status and the yield

-- the status is `Done` or `Findings`: the command did everything that was asked for
abbrev pub is_done : Status → Bool
is_done status.Done = true
is_done status.Findings = true
is_done ended = false

-- the only possible outcome has the status `ended` and the yield `yields`
abbrev pub Only : {Y : Type 0} → Status → Y → Status → Y → Type 0
Only ended yields e y = (e ≡ ended) × (y ≡ yields)

-- ---- read faults, and names

-- at least one of these files is missing on the shelf
pub record IsOneMissing (names : List (List ℕ)) (files : Option Files) : Type 0 where
  pub name : List ℕ
  pub one : Contains names name
  pub missing : IsMissing files name

-- The shelf was asked for a prefix of `names`, in order, and for no other name. If `done` holds, the shelf was asked
-- for all of `names`.
pub record AsksFor (names : List (List ℕ)) (shelf shelf' : ShelfState) (done : Type 0) : Type 0 where
  pub count : ℕ
  pub within : count ≤ length names
  pub all : done → count ≡ length names
  pub asked : Asks (take count names) shelf shelf'

-- the command did everything that was asked for, whether or not a device failed
abbrev pub is_through : Status → Bool
is_through status.DeviceFault = true
is_through ended = is_done ended

-- a run did everything that was asked for: it ended with the status `Done` or `Findings`
abbrev pub IsDone : Result Status Failed → Type 0
IsDone (Ok ended) = is_done ended ≡ true
IsDone (Err e) = ⊥

-- For one of the possible outcomes, the run gave out a part of what the outcome yields. Unless memory ran out or a
-- write failed, the run gave out all that the outcome yields, and ended with the outcome's status.
pub record Tells {Y : Type 0} (Outcome : Status → Y → Type 0) (Whole Part : Y → Type 0) (result : Result Status Failed) : Type 0 where
  pub ended : Status
  pub yields : Y
  pub outcome : Outcome ended yields
  pub whole : IfOk result (λ s. s ≢ status.Memory → s ≢ status.WriteFault → (s ≡ ended) × Whole yields)
  pub part : Part yields

-- `Tells` for outcomes that yield a text. A text is given out: the text is appended to the known bytes `before`, and
-- the result is the bytes `now`.
abbrev pub TellsText : (Status → List ℕ → Type 0) → Option (List ℕ) → Option (List ℕ) → Result Status Failed → Type 0
TellsText Outcome before now result = Tells Outcome (Appends before now) (AppendsPrefix before now) result

-- `Tells` for outcomes that yield a text and items for the devices
abbrev pub TellsYield : (Status → Yield → Type 0) → (List Shown → Type 0) → Option (List ℕ) → Option (List ℕ) → Result Status Failed → Type 0
TellsYield Outcome handed before now result = Tells Outcome (Gives handed before now) (GivesPart handed before now) result

-- For one of the possible outcomes, the run gave out a prefix of what the outcome yields. If memory did not run out and
-- no write failed, three things hold: the run gave out all that the outcome yields, ended with the outcome's status,
-- and asked the shelf for exactly the outcome's names.
pub record TellsRun (Outcome : List (List ℕ) → Status → Yield → Type 0) (handed : List Shown → Type 0) (shelf shelf' : ShelfState) (before now : Option (List ℕ)) (result : Result Status Failed) : Type 0 where
  pub came : List (List ℕ)
  pub ended : Status
  pub yields : Yield
  pub outcome : Outcome came ended yields
  pub whole : IfOk result (λ s. s ≢ status.Memory → s ≢ status.WriteFault → (s ≡ ended) × Gives handed before now yields × Asks came shelf shelf')
  pub part : GivesPart handed before now yields

-- The sink keeps what it held, and its count of faults rose if and only if the call failed.
pub record KeepsSink {T : Type 0} (out out' : SinkState) (result : Result T Failed) : Type 0 where
  pub grows : Grows out.held out'.held
  pub counted : IsCounted out.faults out'.faults result

-- The pending text may have been written, or a part of it. The bytes that the sink holds, followed by the text that is
-- still pending, are unchanged.
pub record WritesWaiting (out out' : SinkState) (waits waits' : List ℕ) (result : Result Unit Failed) : Type 0 where
  pub kept : Keeps (written out.held waits) (written out'.held waits')
  pub sink : KeepsSink out out' result

-- With `Ok`, the last line of a run was printed whole, and the run ends with the status `ended`. With `Err`, the sink
-- failed, and nothing of the line was printed.
pub record EndsWith (ended : Status) (out out' : SinkState) (waits waits' : List ℕ) (result : Result Status Failed) (line : List ℕ) : Type 0 where
  pub status : IfOk result (λ s. s ≡ ended)
  pub written : MatchResult result (λ _. Appends (written out.held waits) (written out'.held waits') line) (λ _. Keeps (written out.held waits) (written out'.held waits'))
  pub sink : KeepsSink out out' result

-- A run ends because a file could not be opened. If memory ran out, the status says so, and nothing is printed. If
-- memory did not run out, the line of a read fault is printed.
pub record EndsUnopened (fault : OpenFault) (out out' : SinkState) (waits waits' : List ℕ) (result : Result Status Failed) : Type 0 where
  pub memory : fault ≡ open_fault.Memory → (result ≡ Ok status.Memory) × Keeps (written out.held waits) (written out'.held waits')
  pub other : fault ≢ open_fault.Memory → EndsWith status.ReadFault out out' waits waits' result read_fault_line
  pub sink : KeepsSink out out' result

-- How the reading faults change in a run that reads some of these files. The run ends with a read fault only if exactly
-- one read fault was counted or one of the files is missing. If the run ends with a status other than `ReadFault`,
-- `Memory` and `WriteFault`, the reading faults are unchanged.
pub record CountsReading (names : List (List ℕ)) (files : Option Files) (before after : ReadingFaults) (result : Result Status Failed) : Type 0 where
  pub never_falls : before.count ≤ after.count
  pub fault : result ≡ Ok status.ReadFault → HasOneMore before after ⊎ IsOneMissing names files
  pub quiet : IfOk result (λ s. s ≢ status.ReadFault → s ≢ status.Memory → s ≢ status.WriteFault → after ≡ before)
