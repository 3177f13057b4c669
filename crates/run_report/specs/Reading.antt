-- Files that a command reads in order: the possible outcomes of one file, and of all files.
use Rattle.std.specs.Prelude.{zero, List, ◌≡◌, ℕ, Some, Option, None, take, [], ◌∷◌, true, false, if◌then◌else◌, ◌^◌, ◌≤◌, IsSome, Result, Ok, Err, IfOk, OnErr, Bool, length}
use Rattle.pcap_frames.specs.Capture.{Record}
use Rattle.capture_io.specs.declared.end.End.{End}
use Rattle.capture_io.specs.Formats.{records_in}
use Rattle.capture_io.specs.Ends.{end_of, CountsFault}
use Rattle.avtp_text.specs.Notices.{read_fault_line}
use Rattle.avtp_base.specs.Files.{Files, Slots}
use Rattle.capture_io.specs.Source.{Sourcing, slot_of, to_do, GivesNext, HasGivenOf}
use Rattle.avtp_base.specs.States.{ShelfState, SinkState}
use Rattle.capture_io.specs.Reads.{ReadsSlot, OnlyReads}
use Rattle.avtp_base.specs.declared.failed.Failed.{Failed}
use Rattle.avtp_text.specs.Written.{written}
use Rattle.avtp_base.specs.Told.{Keeps}
use Rattle.avtp_base.specs.Faults.{FailsAt}
use Rattle.avtp_base.specs.declared.failed.FaultPlace.{FaultPlace}
use Rattle.avtp_base.specs.declared.failed.FaultPlace.TheVariants as fault_place
use Rattle.sample_schedule.specs.declared.shown.Shown.{Shown}
use Rattle.run_report.specs.declared.status.Status.{Status}
use Rattle.run_report.specs.RunReport.{Halts, RunReport}
use Rattle.run_report.specs.Halt.{CanHalt, CanStop, Halt, no_halt, past_first, not_opened, stopped_after}
use Rattle.run_report.specs.Yield.{Yield, says, with_more}
use Rattle.run_report.specs.Outcome.{is_done, KeepsSink, CountsReading, TellsYield, IsDone, TellsRun}
use Rattle.capture_io.specs.declared.end.End.TheVariants as end
use Rattle.run_report.specs.declared.status.Status.TheVariants as status

-- ---- one file

-- What a command makes of a file: the status, and what the command yields. The status and the yield depend on the
-- records that were read and on how the reading ended.
pub record Report : Type 0 where
  pub status : List Record → End → Status
  pub yields : List Record → End → Yield

-- The status with which a file ends. The option holds the file's bytes, or is `None` if the file is missing. `halt` is
-- the run's read fault, with places counted from this file on.
abbrev pub file_status : Report → ℕ → Option (List ℕ) → Halt → Status
file_status report limit None halt = status.ReadFault
file_status report limit (Some bytes) (not_opened zero) = status.ReadFault
file_status report limit (Some bytes) (stopped_after zero after) = report.status (records_in (take after bytes)) end.ReadFault
file_status report limit (Some bytes) halt = report.status (records_in (take limit bytes)) (end_of limit bytes)

-- What a file yields. The option holds the file's bytes, or is `None` if the file is missing. `halt` is the run's read
-- fault, with places counted from this file on.
abbrev pub file_yield : Report → ℕ → Option (List ℕ) → Halt → Yield
file_yield report limit None halt = says read_fault_line
file_yield report limit (Some bytes) (not_opened zero) = says read_fault_line
file_yield report limit (Some bytes) (stopped_after zero after) = report.yields (records_in (take after bytes)) end.ReadFault
file_yield report limit (Some bytes) halt = report.yields (records_in (take limit bytes)) (end_of limit bytes)

-- A file's outcome: its status and what it yields, for a read fault that is possible in this file, or for none.
pub data FileOutcome (report : Report) (limit : ℕ) (told : Option (List ℕ)) (fault : FaultPlace → Type 0) (ended : Status) (yields : Yield) : Type 0 where
  through : ended ≡ file_status report limit told no_halt → yields ≡ file_yield report limit told no_halt → FileOutcome report limit told fault ended yields
  refused : fault fault_place.Opening → ended ≡ file_status report limit told (not_opened zero) → yields ≡ file_yield report limit told (not_opened zero)
      → FileOutcome report limit told fault ended yields
  halted : (after : ℕ) → CanStop limit told fault after → ended ≡ file_status report limit told (stopped_after zero after)
      → yields ≡ file_yield report limit told (stopped_after zero after) → FileOutcome report limit told fault ended yields

-- ---- files in order

-- The status of a run whose first file is done. If the other files end with `Done`, the run has the status of the first
-- file. If the other files do not end with `Done`, the run has the status of the other files.
abbrev pub joined : Status → Status → Status
joined first status.Done = first
joined first rest = rest

-- The files that a run reaches: all files up to and including the first file that does not end with `Done` or
-- `Findings`. `one` gives the status of each file, given the run's read fault with places counted from this file on.
unfoldable pub in_order_read : (Halt → List ℕ → Status) → Halt → List (List ℕ) → List (List ℕ)
in_order_read one halt [] = []
in_order_read one halt (name ∷ names) = name ∷ (if is_done (one halt name) then in_order_read one (past_first halt) names else [])

-- the status of a run over files in order, given the status of each
unfoldable pub in_order_status : (Halt → List ℕ → Status) → Halt → List (List ℕ) → Status
in_order_status one halt [] = status.Done
in_order_status one halt (name ∷ names) =
    if is_done (one halt name) then joined (one halt name) (in_order_status one (past_first halt) names) else one halt name

-- what a run over files in order yields, given the status and the yield of each
unfoldable pub in_order_yield : (Halt → List ℕ → Status) → (Halt → List ℕ → Yield) → Halt → List (List ℕ) → Yield
in_order_yield one yields halt [] = says []
in_order_yield one yields halt (name ∷ names) =
    with_more (yields halt name) (if is_done (one halt name) then in_order_yield one yields (past_first halt) names else says [])

-- ---- a command

-- Which files a command reads, in order; the maximum number of bytes that it reads of each file; and what it makes of
-- each file.
pub record ReadPlan : Type 0 where
  pub names : List (List ℕ)
  pub limit : ℕ
  pub report : List ℕ → Report

-- the status with which the file of this name ends
abbrev pub one_status : ReadPlan → Files → Halt → List ℕ → Status
one_status plan files halt name = file_status (plan.report name) plan.limit (files name) halt

-- what the file of this name yields
abbrev pub one_yield : ReadPlan → Files → Halt → List ℕ → Yield
one_yield plan files halt name = file_yield (plan.report name) plan.limit (files name) halt

-- what a command with this plan does
abbrev pub plan_report : ReadPlan → Files → Halt → RunReport
plan_report plan files halt = record {
  came = in_order_read (one_status plan files) halt plan.names;
  ended = in_order_status (one_status plan files) halt plan.names;
  yields = in_order_yield (one_status plan files) (one_yield plan files) halt plan.names;
  made = None;
}

-- what a command with this plan did, under one of the read faults that are possible
abbrev pub PlanOutcome : ReadPlan → Files → (FaultPlace → Type 0) → List (List ℕ) → Status → Yield → Type 0
PlanOutcome plan files fault came ended yields = Halts (CanHalt plan.limit plan.names files fault) (plan_report plan files) came ended yields None

-- ---- an open capture

-- The file is open, its reading has not ended, and the remaining work of the reading is bounded.
abbrev pub IsOpen : Slots → Sourcing → Type 0
IsOpen slots source = (source.ended ≡ None) × IsSome (slots (slot_of source)) × (to_do source ≤ 2 ^ 41)

-- how the reading of the file ended, if all its records were reported
abbrev pub ended_in : {T E : Type 0} → (T → End) → Result T E → Option End
ended_in end (Ok x) = Some (end x)
ended_in end (Err e) = None

-- The file was read, and is still open. If a read fault ended the reading, one more reading fault was counted. All else
-- is unchanged.
pub record ReadsCapture (shelf shelf' : ShelfState) (k now : ℕ) (how : Option End) : Type 0 where
  pub reads : ReadsSlot shelf shelf' k now
  pub counted : CountsFault None how shelf.reading_faults shelf'.reading_faults

-- If the result is `Ok`, the next record was read or the reading ended; before this, pending text was written if
-- necessary. With `Err`, writing the pending text failed, and nothing was read.
pub record ReadsAhead (shelf shelf' : ShelfState) (old new : Sourcing) (out out' : SinkState) (waits waits' : List ℕ) (result : Result (Option End) Failed) : Type 0 where
  pub gives : IfOk result (λ how. GivesNext shelf shelf' old new how)
  pub cut : OnErr result ((shelf' ≡ shelf) × (slot_of new ≡ slot_of old))
  pub kept : Keeps (written out.held waits) (written out'.held waits')
  pub sink : KeepsSink out out' result

-- The records of the file were read as far as possible, and reported. `Told` says what was reported. `Told` relates the
-- limit, the bytes of the file, the condition for a read fault, the known text before and after, and the result.
pub record ReadsRecords {T : Type 0} (Told : ℕ → List ℕ → (FaultPlace → Type 0) → Option (List ℕ) → Option (List ℕ) → Result T Failed → Type 0) (ending : T → End)
    (shelf shelf' : ShelfState) (old new : Sourcing) (out out' : SinkState) (waits waits' : List ℕ) (result : Result T Failed) : Type 0 where
  pub told : (limit : ℕ) (bytes : List ℕ) → HasGivenOf limit bytes shelf old [] → Told limit bytes (FailsAt shelf.reading_faults shelf'.reading_faults) (written out.held waits) (written out'.held waits') result
  pub reads : ReadsCapture shelf shelf' (slot_of old) (slot_of new) (ended_in ending result)
  pub sink : KeepsSink out out' result

-- ---- what was done

-- A run that only reads can end with this status. The status does not report a failed write, wrong words, a failed
-- device or a refused input of `talk`.
abbrev pub is_of_reading : Status → Bool
is_of_reading status.Words = false
is_of_reading status.WriteFault = false
is_of_reading status.DeviceFault = false
is_of_reading status.TalkInput = false
is_of_reading ended = true

-- unless the sink failed, a run ended with a status with which a run that only reads can end
abbrev pub IsReadingStatus : Result Status Failed → Type 0
IsReadingStatus result = IfOk result (λ s. is_of_reading s ≡ true)

-- The file `name` was read, up to `limit` bytes. What the report yields was printed and given to devices, and nothing
-- else was done.
pub record DoesFile (report : Report) (handed : List Shown → Type 0) (limit : ℕ) (name : List ℕ) (shelf shelf' : ShelfState) (out out' : SinkState) (waits waits' : List ℕ) (result : Result Status Failed) : Type 0 where
  pub tells : (all : Files) → shelf.files ≡ Some all → TellsYield (FileOutcome report limit (all name) (FailsAt shelf.reading_faults shelf'.reading_faults)) handed (written out.held waits) (written out'.held waits') result
  pub keeps : OnlyReads shelf shelf' (name ∷ [])
  pub counts : CountsReading (name ∷ []) shelf.files shelf.reading_faults shelf'.reading_faults result
  pub own : IsReadingStatus result
  pub sink : KeepsSink out out' result

-- A command read some of these files, in this order. What the command yields was printed and given to devices, and
-- nothing else was done. `Outcome` gives the possible outcomes over the files that a shelf shows.
pub record DoesReading (Outcome : Files → (FaultPlace → Type 0) → List (List ℕ) → Status → Yield → Type 0) (names : List (List ℕ)) (handed : List Shown → Type 0) (shelf shelf' : ShelfState) (out out' : SinkState) (waits waits' : List ℕ) (result : Result Status Failed) : Type 0 where
  pub tells : (all : Files) → shelf.files ≡ Some all → IsSome shelf'.files → TellsRun (Outcome all (FailsAt shelf.reading_faults shelf'.reading_faults)) handed shelf shelf' (written out.held waits) (written out'.held waits') result
  pub count : ℕ
  pub within : count ≤ length names
  pub all : IsDone result → count ≡ length names
  pub keeps : OnlyReads shelf shelf' (take count names)
  pub counts : CountsReading names shelf.files shelf.reading_faults shelf'.reading_faults result
  pub own : IsReadingStatus result
  pub sink : KeepsSink out out' result

-- The files of a plan were read in order.
abbrev pub DoesFiles : ReadPlan → (List Shown → Type 0) → ShelfState → ShelfState → SinkState → SinkState → List ℕ → List ℕ → Result Status Failed → Type 0
DoesFiles plan handed shelf shelf' out out' waits waits' result = DoesReading (PlanOutcome plan) plan.names handed shelf shelf' out out' waits waits' result
