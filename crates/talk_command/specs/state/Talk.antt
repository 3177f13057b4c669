-- Only private functions and proofs use these definitions. What `talk` prints and how it ends.
use Rattle.std.specs.Prelude.{None, length, ◌≤◌, ◌<◌, ◌≡◌, ◌≢◌, ℕ, List, Option, Result, Ok, IfOk, [], ◌∷◌, IsErrOf, IsOk, OnErr, OnOk, slice_get, Some, if◌then◌else◌, ⊤}
use Rattle.avtp_base.specs.declared.failed.Failed.{Failed}
use Rattle.avtp_base.specs.Files.{Files, KeepsFiles, PutsFile}
use Rattle.capture_io.specs.Writing.{MakesPrefix, KeepsSlotsBut}
use Rattle.avtp_base.specs.declared.failed.OpenFault.{OpenFault}
use Rattle.avtp_base.specs.Faults.{IsOpenCounted}
use Rattle.avtp_base.specs.States.{ShelfState, Asks, SinkState}
use Rattle.talker.specs.Frames.{frames, capture}
use Rattle.talker.specs.Talking.{Talking as Sending}
use Rattle.capture_io.specs.declared.end.Stop.{Stop}
use Rattle.avtp_text.specs.Written.{written}
use Rattle.capture_io.specs.declared.contents.Contents.{Contents}
use Rattle.capture_io.specs.Contents.{IsContents}
use Rattle.talk_plan.specs.declared.plan.TalkPlan.{TalkPlan}
use Rattle.talk_plan.specs.Plan.{most_input}
use Rattle.talk_plan.specs.declared.fault.TalkFault.{TalkFault}
use Rattle.avtp_text.specs.Talk.{talk_input_line}
use Rattle.avtp_text.specs.Notices.{limit_line, read_fault_line}
use Rattle.avtp_words.specs.Grammar.{Talking as Asked}
use Rattle.talker.specs.Faults.{fault_of}
use Rattle.avtp_base.specs.Told.{Keeps}
use Rattle.avtp_base.specs.declared.failed.OpenFault.TheVariants as open_fault
use Rattle.capture_io.specs.declared.end.Stop.TheVariants as stop
use Rattle.talk_plan.specs.declared.fault.TalkFault.TheVariants as fault
use Rattle.run_report.specs.declared.status.Status.{Status}
use Rattle.run_report.specs.Outcome.{AsksFor, is_done, IsDone, KeepsSink, TellsText, EndsWith}
use Rattle.run_report.specs.Made.{frame_bytes, KeepsFilesBut, CountsWriting}
use Rattle.run_report.specs.declared.status.Status.TheVariants as status
use Rattle.talk_command.specs.Talk.{sent_line}

-- ---- an outcome

-- The possible outcomes of `talk` for an input of these bytes: its status, and the text that it prints. A read fault is
-- possible only if `fault` holds.
abbrev pub TalkedOutcome : TalkPlan → List ℕ → Type 0 → Status → List ℕ → Type 0
TalkedOutcome plan bytes fault status.Done text = (length bytes ≤ most_input) × (fault_of plan bytes ≡ None) × (text ≡ sent_line plan bytes)
TalkedOutcome plan bytes fault status.TalkInput text =
    (length bytes ≤ most_input) × ((why : TalkFault) × (fault_of plan bytes ≡ Some why) × (text ≡ talk_input_line why))
TalkedOutcome plan bytes fault status.Limit text = (most_input < length bytes) × (text ≡ limit_line most_input)
TalkedOutcome plan bytes fault status.ReadFault text = fault × (text ≡ read_fault_line)
TalkedOutcome plan bytes fault ended text = ⊥

-- The possible outcomes of `talk`. The option holds the bytes of the input, or is `None` if the input is missing. A
-- missing input results in a read fault.
abbrev pub TalkOutcome : TalkPlan → Option (List ℕ) → Type 0 → Status → List ℕ → Type 0
TalkOutcome plan None fault ended text = (ended ≡ status.ReadFault) × (text ≡ read_fault_line)
TalkOutcome plan (Some bytes) fault ended text = TalkedOutcome plan bytes fault ended text

-- the capture that a run of `talk` makes, given its input and its status; `None` if it makes none
abbrev pub talk_made : TalkPlan → Option (List ℕ) → Status → Option (List ℕ)
talk_made plan (Some bytes) status.Done = Some (capture plan bytes)
talk_made plan told ended = None

-- the names that a run of `talk` with this status asks for: its input, and its output only if the output was made
abbrev pub talk_came : Asked → Status → List (List ℕ)
talk_came asked ended = asked.input ∷ (if is_done ended then asked.output ∷ [] else [])

-- ---- what becomes of the output

-- What becomes of the file `name`, given the result of a run that has to make this file. If everything was done, the
-- file has these bytes. If memory ran out or a write failed, the file is unchanged or has a prefix of these bytes. If
-- the run ends with a status other than `Done`, `WriteFault` and `Memory`, all files are unchanged.
pub record Makes (name bytes : List ℕ) (files files' : Option Files) (result : Result Status Failed) : Type 0 where
  pub done : result ≡ Ok status.Done → PutsFile files files' name bytes
  pub part : MakesPrefix files files' name bytes
  pub untouched : IfOk result (λ s. s ≢ status.Done → s ≢ status.WriteFault → s ≢ status.Memory → KeepsFiles files files')

-- ---- one file

-- A call made the file `name` with these bytes, or returned why the file was not made. If the file was not made, then
-- memory ran out or a writing fault was counted. If the file was not made, the file `name` is unchanged or has a prefix
-- of the bytes. All else is unchanged, and no other name was asked for.
pub record MakesFile (shelf shelf' : ShelfState) (name bytes : List ℕ) (result : Result Unit OpenFault) : Type 0 where
  pub made : OnOk result (PutsFile shelf.files shelf'.files name bytes)
  pub part : OnErr result (MakesPrefix shelf.files shelf'.files name bytes)
  pub not_missing : IsErrOf result open_fault.Missing → ⊥
  pub slots : KeepsSlotsBut shelf.files shelf.slots shelf'.slots name
  pub reading : shelf'.reading_faults ≡ shelf.reading_faults
  pub writing : IsOpenCounted shelf.writing_faults shelf'.writing_faults result
  pub asked : AsksFor (name ∷ []) shelf shelf' (IsOk result)

-- the bytes of the frame that a talker sends next
abbrev pub next_bytes : Sending → List ℕ
next_bytes t = frame_bytes (slice_get (frames t.plan t.input) t.given)

-- ---- what is done

-- Let memory not run out, and let no write fail. A run over an input then ends with a read fault if and only if a read
-- fault stopped the reading. The run never ends with the status of wrong words or of a failed device.
pub record FaultStops (halt : Stop) (result : Result Status Failed) : Type 0 where
  pub fault : result ≡ Ok status.ReadFault → halt ≡ stop.Fault
  pub quiet : IfOk result (λ s. s ≢ status.ReadFault → s ≢ status.Memory → s ≢ status.WriteFault → halt ≢ stop.Fault)
  pub no_words : result ≢ Ok status.Words
  pub no_devices : result ≢ Ok status.DeviceFault

-- A call wrote only the file `name`, and asked for no other name. The fields say what became of the files, the slots
-- and the counts of faults.
pub record WritesOnly (shelf shelf' : ShelfState) (name : List ℕ) (result : Result Status Failed) : Type 0 where
  pub files : KeepsFilesBut (Some name) shelf.files shelf'.files
  pub slots : KeepsSlotsBut shelf.files shelf.slots shelf'.slots name
  pub reading : shelf'.reading_faults ≡ shelf.reading_faults
  pub writing : CountsWriting (Some name) shelf.writing_faults shelf'.writing_faults result
  pub asked : AsksFor (name ∷ []) shelf shelf' (IsDone result)
  pub came : IfOk result (λ s. s ≢ status.Memory → s ≢ status.WriteFault → Asks (if is_done s then name ∷ [] else []) shelf shelf')

-- a possible outcome; if not everything was done, the files are unchanged
abbrev pub OutcomeWith : (Status → List ℕ → Type 0) → Option Files → Option Files → Status → List ℕ → Type 0
OutcomeWith Outcome files files' ended text = Outcome ended text × (ended ≢ status.Done → KeepsFiles files files')

-- The task of the call was to make the file `name` with these bytes. The call gave out the text of one of the possible
-- outcomes, and left all else unchanged.
pub record Talks (Outcome : Status → List ℕ → Type 0) (name bytes : List ℕ) (shelf shelf' : ShelfState)
    (out out' : SinkState) (waits waits' : List ℕ) (result : Result Status Failed) : Type 0 where
  pub tells : TellsText (OutcomeWith Outcome shelf.files shelf'.files) (written out.held waits) (written out'.held waits') result
  pub makes : Makes name bytes shelf.files shelf'.files result
  pub writes : WritesOnly shelf shelf' name result
  pub sink : KeepsSink out out' result

-- the contents are the bytes that were read of a file with these bytes, and where the reading stopped
abbrev pub IsRead : List ℕ → Contents → Type 0
IsRead bytes contents = IsContents most_input bytes (λ place. ⊤) contents.stop contents.bytes.items

-- The task of the call was to make a capture from an input. The call gave out the text of one of the possible outcomes
-- for the bytes that were read from the input.
pub record TalksContents (plan : TalkPlan) (contents : Contents) (name : List ℕ) (shelf shelf' : ShelfState)
    (out out' : SinkState) (waits waits' : List ℕ) (result : Result Status Failed) : Type 0 where
  pub tells : (bytes : List ℕ) → IsRead bytes contents → TellsText (OutcomeWith (TalkedOutcome plan bytes (contents.stop ≡ stop.Fault)) shelf.files shelf'.files) (written out.held waits) (written out'.held waits') result
  pub makes : (bytes : List ℕ) → IsRead bytes contents → Makes name (capture plan bytes) shelf.files shelf'.files result
  pub writes : WritesOnly shelf shelf' name result
  pub counts : FaultStops contents.stop result
  pub sink : KeepsSink out out' result

-- A run ends because the input makes no stream. If memory ran out, the status says so, and nothing is printed. If
-- another fault ended the run, the line that gives the reason is printed.
pub record EndsRefused (why : TalkFault) (out out' : SinkState) (waits waits' : List ℕ) (result : Result Status Failed) : Type 0 where
  pub memory : why ≡ fault.Memory → (result ≡ Ok status.Memory) × Keeps (written out.held waits) (written out'.held waits')
  pub other : why ≢ fault.Memory → EndsWith status.TalkInput out out' waits waits' result (talk_input_line why)
  pub sink : KeepsSink out out' result
