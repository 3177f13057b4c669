-- Only private functions and proofs use these definitions. A run of `gateway` after its scan: OUT is
-- made, and IN is read again.
use Rattle.std.specs.Prelude.{◌≡◌, ◌≢◌, ◌⊎◌, ℕ, ◌-◌, false, List, [], ◌∷◌, Option, Some, IsSome, Result, Ok, Err, IsErr, length, Bool, true, IfOk}
use Rattle.avtp_base.specs.declared.failed.FaultPlace.{FaultPlace}
use Rattle.avtp_base.specs.declared.failed.Failed.{Failed}
use Rattle.avtp_base.specs.Faults.{FailsAt, HasOneMore}
use Rattle.avtp_base.specs.Files.{Files, IsMissing, KeepsOtherFiles, name_in}
use Rattle.avtp_base.specs.States.{Asks, ShelfState, SinkState}
use Rattle.capture_io.specs.declared.end.End.{End}
use Rattle.capture_io.specs.Ends.{end_of, EndsAt}
use Rattle.listener.specs.Listening.{ListenState, StandsFor, is_closed}
use Rattle.am824_gateway.specs.declared.scan.Shape.{Shape}
use Rattle.avtp_words.specs.Grammar.{Turning}
use Rattle.avtp_text.specs.Written.{written}
use Rattle.avtp_base.specs.declared.failed.OpenFault.{OpenFault}
use Rattle.am824_gateway.specs.Gateways.{Gating}
use Rattle.avtp_text.specs.Gateway.{gateway_line}
use Rattle.capture_io.specs.CaptureWriting.{FinishesCapture, ClosesCapture}
use Rattle.capture_io.specs.Formats.{records_in}
use Rattle.capture_io.specs.Writing.{KeepsSlotsBut}
use Rattle.capture_io.specs.declared.end.End.TheVariants as end
use Rattle.avtp_base.specs.declared.failed.OpenFault.TheVariants as open_fault
use Rattle.run_report.specs.Listener.{plan_of}
use Rattle.run_report.specs.Outcome.{KeepsSink, EndsWith, AsksFor, CountsReading}
use Rattle.run_report.specs.Endings.{side_line}
use Rattle.run_report.specs.declared.status.Status.{Status}
use Rattle.run_report.specs.Made.{KeepsFilesBut, CountsWriting, Produces}
use Rattle.run_report.specs.declared.status.Status.TheVariants as status
use Rattle.gateway_command.specs.declared.turning.Output.{Output}
use Rattle.gateway_command.specs.declared.turning.Turned.{Turned}
use Rattle.gateway_command.specs.state.Turning.{IsFreshOutput, TurnsTo, WritesOutput, ended_turn}
use Rattle.gateway_command.specs.Gateway.{turned_status, batches_by, skips_in, turned_capture, turned_text, FailsAgain}
use Rattle.gateway_command.specs.declared.turning.Turned.TheVariants as turned

-- ---- the second reading

-- the listener was given no record, and is not closed
pub record IsFresh (listener : ListenState) : Type 0 where
  pub begun : listener.counts.frames ≡ 0
  pub going : is_closed listener ≡ false
  pub stands : StandsFor [] 0 listener

-- If IN could be opened again, it was converted as far as it could be read and written, and then closed. If IN could
-- not be opened again, no batch was presented.
pub record TurnsInput (asked : Turning) (before after : ShelfState) (listener : ListenState) (old new : Output) (out out' : SinkState) (waits waits' : List ℕ) (result : Result Turned Failed) : Type 0 where
  pub told : (shape : Option Shape) (bytes : List ℕ) (files : Option Files) (all : Files) → before.files ≡ Some all → all asked.input ≡ Some bytes → IsSome after.files → IsFreshOutput asked shape files before old
      → StandsFor [] 0 listener → is_closed listener ≡ false → listener.plan ≡ plan_of asked.listener → end_of asked.listener.limit bytes ≡ end.Whole
      → TurnsTo asked shape bytes (FailsAgain bytes (FailsAt before.reading_faults after.reading_faults)) files after new (written out.held waits) (written out'.held waits') result
  pub slots : KeepsOtherFiles before.slots after.slots (name_in before.slots old.writer.slot)
  pub writes : WritesOutput before after old new result
  -- If the reading ended with a read fault, the fault was counted or the file is missing. If the reading ended without
  -- a read fault, no read fault was counted.
  pub fault : (presented : ℕ) → result ≡ Ok (turned.Ended end.ReadFault presented) → HasOneMore before.reading_faults after.reading_faults ⊎ IsMissing before.files asked.input
  pub quiet : (how : End) → ended_turn result ≡ Some how → how ≢ end.ReadFault → after.reading_faults ≡ before.reading_faults
  pub asks : Asks (asked.input ∷ []) before after
  pub sink : KeepsSink out out' result

-- the result of a conversion whose capture could not be opened: no batch was presented
abbrev pub unread_as : OpenFault → Turned
unread_as open_fault.Memory = turned.NoMemory
unread_as fault = turned.Ended end.ReadFault 0

-- ---- the end

-- the last line, given the number of presented batches, the state of the gateway, and how the reading ended
abbrev pub ended_line : ℕ → ℕ → Gating → End → List ℕ
ended_line limit presented g end.Whole = gateway_line presented g.given.packets (presented - g.given.batches)
ended_line limit presented g how = side_line limit how

-- nothing was printed
pub record PrintsNothing (out out' : SinkState) (waits waits' : List ℕ) : Type 0 where
  pub sink : out' ≡ out
  pub text : waits' ≡ waits

-- Either OUT was finished, and the last line was printed if the sink did not fail; or OUT could not be completed, and
-- nothing was printed.
pub data FinishesOutput (limit : ℕ) (how : End) (presented : ℕ) (before after : ShelfState) (o : Output) (out out' : SinkState) (waits waits' : List ℕ) (result : Result Status Failed) : Type 0 where
  finished : FinishesCapture before after o.writer (Ok tt) → EndsWith (turned_status (presented - o.gateway.given.batches) how) out out' waits waits' result (ended_line limit presented o.gateway how)
      → FinishesOutput limit how presented before after o out out' waits waits' result
  unfinished : (e : Failed) → FinishesCapture before after o.writer (Err e) → result ≡ Ok status.WriteFault → PrintsNothing out out' waits waits' → FinishesOutput limit how presented before after o out out' waits waits' result

-- OUT was closed without being finished. The run ends without a line, and its result satisfies `so`.
pub record AbandonsOutput (so : Result Status Failed → Type 0) (before after : ShelfState) (o : Output) (out out' : SinkState) (waits waits' : List ℕ) (result : Result Status Failed) : Type 0 where
  pub closes : ClosesCapture before after o.writer (Ok tt)
  pub ended : so result
  pub nothing : PrintsNothing out out' waits waits'

-- how OUT was closed, given the result of the conversion
abbrev pub EndsOutput : ℕ → Result Turned Failed → ShelfState → ShelfState → Output → SinkState → SinkState → List ℕ → List ℕ → Result Status Failed → Type 0
EndsOutput limit (Ok (turned.Ended how presented)) before after o out out' waits waits' result = FinishesOutput limit how presented before after o out out' waits waits' result
EndsOutput limit (Ok turned.NoMemory) before after o out out' waits waits' result = AbandonsOutput (λ r. r ≡ Ok status.Memory) before after o out out' waits waits' result
EndsOutput limit (Ok turned.Unwritten) before after o out out' waits waits' result = AbandonsOutput (λ r. r ≡ Ok status.WriteFault) before after o out out' waits waits' result
EndsOutput limit (Err e) before after o out out' waits waits' result = AbandonsOutput IsErr before after o out out' waits waits' result

-- ---- a capture that was scanned

-- A possible outcome of a run after its input was scanned. The input has these bytes, and its stream has the shape
-- `shape`.
pub record TurnedOutcome (asked : Turning) (shape : Option Shape) (bytes : List ℕ) (fault : FaultPlace → Type 0) (ended : Status) (text : List ℕ) (made : Option (List ℕ)) : Type 0 where
  pub how : End
  pub prefix : List ℕ
  pub ends : EndsAt asked.listener.limit (Some bytes) (FailsAgain bytes fault) how prefix
  pub status : ended ≡ turned_status (length (skips_in asked shape (batches_by asked (records_in prefix) how))) how
  pub printed : text ≡ turned_text asked shape (batches_by asked (records_in prefix) how) how
  pub written : made ≡ Some (turned_capture asked shape (batches_by asked (records_in prefix) how))

-- A run of `gateway` can end with this status after its scan found that each record can be converted.
abbrev pub is_of_gateway : Status → Bool
is_of_gateway status.Words = false
is_of_gateway status.DeviceFault = false
is_of_gateway status.TalkInput = false
is_of_gateway ended = true

-- OUT was made from an input that was scanned.
pub record TurnsFile (asked : Turning) (shape : Option Shape) (before after : ShelfState) (out out' : SinkState) (waits waits' : List ℕ) (result : Result Status Failed) : Type 0 where
  pub told : (all : Files) (bytes : List ℕ) → before.files ≡ Some all → all asked.input ≡ Some bytes → IsSome after.files → end_of asked.listener.limit bytes ≡ end.Whole
      → Produces (TurnedOutcome asked shape bytes (FailsAt before.reading_faults after.reading_faults)) (Some asked.output) (written out.held waits) (written out'.held waits') before.files after.files result
  pub files : KeepsFilesBut (Some asked.output) before.files after.files
  pub slots : KeepsSlotsBut before.files before.slots after.slots asked.output
  pub reading : CountsReading (asked.input ∷ []) before.files before.reading_faults after.reading_faults result
  pub writing : CountsWriting (Some asked.output) before.writing_faults after.writing_faults result
  pub own : IfOk result (λ s. is_of_gateway s ≡ true)
  pub asks : AsksFor (asked.output ∷ asked.input ∷ []) before after (IfOk result (λ s. (s ≢ status.Memory) × (s ≢ status.WriteFault)))
  pub sink : KeepsSink out out' result
