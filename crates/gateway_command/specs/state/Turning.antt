-- Only private functions and proofs use these definitions. A capture that is converted: what a
-- listener presents from the capture is written as packets of the other format.
use Rattle.std.specs.Prelude.{List, Option, Some, None, ◌≡◌, ℕ, map, take, slice_get, Result, Ok, Err, ◌+◌, ◌≤◌, [], ◌∷◌, ◌++◌, flat_map, IfOk, OnErr, ◌≢◌, false, length, IsSome, OnOk, option_map}
use Rattle.sample_schedule.specs.Batches.{Presented}
use Rattle.am824_gateway.specs.declared.scan.Shape.{Shape}
use Rattle.am824_gateway.specs.declared.scan.To.{To}
use Rattle.am824_gateway.specs.Pieces.{Given, given_by, nothing_given, skip_of}
use Rattle.am824_gateway.specs.Gateways.{Gating}
use Rattle.pcap_frames.specs.Capture.{Record}
use Rattle.talker.specs.Frames.{record_of}
use Rattle.am824_gateway.specs.Packets.{gateway_frames}
use Rattle.avtp_base.specs.declared.failed.FaultPlace.{FaultPlace}
use Rattle.avtp_base.specs.Files.{Files, name_in, Slots, file_of, left_in}
use Rattle.avtp_base.specs.States.{ShelfState, SinkState, AsksNothing}
use Rattle.capture_io.specs.CaptureWriting.{HoldsCapture}
use Rattle.capture_io.specs.Writing.{Writing, WritesSlot}
use Rattle.avtp_base.specs.declared.failed.Failed.{Failed}
use Rattle.avtp_base.specs.Told.{Appends, Keeps}
use Rattle.avtp_text.specs.Written.{written, AppendsPrefix}
use Rattle.capture_io.specs.declared.end.End.{End}
use Rattle.avtp_words.specs.Grammar.{Turning as Asked}
use Rattle.capture_io.specs.Source.{HasGivenOf, Sourcing, slot_of}
use Rattle.listener.specs.Listening.{ListenState, StandsFor, is_closed}
use Rattle.capture_io.specs.Ends.{EndsAt, CountsFault}
use Rattle.capture_io.specs.Formats.{records_in}
use Rattle.avtp_files.specs.ShelfCalls.{IsMadeIn}
use Rattle.avtp_base.specs.Faults.{FailsAt, Rose}
use Rattle.capture_io.specs.declared.end.End.TheVariants as end
use Rattle.run_report.specs.Made.{frame_bytes}
use Rattle.run_report.specs.Outcome.{KeepsSink}
use Rattle.run_report.specs.Listener.{plan_of}
use Rattle.capture_hearing.specs.declared.hearing.Heard.{Heard}
use Rattle.capture_hearing.specs.declared.hearing.Heard.TheVariants as heard
use Rattle.gateway_command.specs.declared.turning.Put.{Put}
use Rattle.gateway_command.specs.declared.turning.Output.{Output}
use Rattle.gateway_command.specs.Gateway.{skipped_at, skipped_line, format_of, skips_in, turned_frames, batches_by}
use Rattle.gateway_command.specs.declared.turning.Turned.{Turned}
use Rattle.gateway_command.specs.declared.turning.Put.TheVariants as did
use Rattle.gateway_command.specs.declared.turning.Turned.TheVariants as turned

-- ---- the batches so far

-- what the gateway has given out after these batches
abbrev pub given_over : To → Option Shape → List Presented → Given
given_over to None batches = nothing_given
given_over to (Some shape) batches = given_by to shape nothing_given batches

-- The gateway `g` was given these batches. The gateway converts a stream of this shape to the format `to`, under the
-- stream ID `id`.
pub record HasPut (to : To) (shape : Option Shape) (id : ℕ) (batches : List Presented) (g : Gating) : Type 0 where
  pub to_is : g.to ≡ to
  pub shape_is : g.shape ≡ shape
  pub id_is : g.id ≡ id
  pub given : g.given ≡ given_over to shape batches

-- the records of the frames that carry these batches
abbrev pub records_for : To → Option Shape → ℕ → List Presented → List Record
records_for to shape id batches = map record_of (gateway_frames to shape id batches)

-- The written file is a capture of a prefix of these records.
pub record HoldsFirst (files : Option Files) (shelf : ShelfState) (writer : Writing) (name : List ℕ) (records : List Record) : Type 0 where
  pub count : ℕ
  pub holds : HoldsCapture files shelf writer name (take count records)

-- ---- the packets of a batch

-- the bytes of frame `i` of the most recent batch that was not skipped
abbrev pub piece_bytes : Gating → ℕ → List ℕ
piece_bytes g i = frame_bytes (slice_get g.frames i)

-- the result of writing the packets of a batch, in the type of a writer's result
abbrev pub wrote : Result Put Failed → Result Unit Failed
wrote (Ok did.Done) = Ok tt
wrote (Ok did.Unwritten) = Err (record {})
wrote (Err e) = Ok tt

-- A batch was put: either its packets were written, or the batch was skipped and the line with the reason was printed.
pub record PutsBatch (batch : Presented) (before after : ShelfState) (old new : Output) (out out' : SinkState) (waits waits' : List ℕ) (result : Result Put Failed) : Type 0 where
  -- if the result is `Done`, the gateway was given `batch` after `batches`
  pub put : result ≡ Ok did.Done → (to : To) (shape : Option Shape) (id : ℕ) (batches : List Presented) → HasPut to shape id batches old.gateway → HasPut to shape id (batches ++ batch ∷ []) new.gateway
  pub frames : result ≡ Ok did.Done → (to : To) (shape : Option Shape) (id : ℕ) (batches : List Presented) (files : Option Files) (name : List ℕ) → HasPut to shape id batches old.gateway
      → HoldsCapture files before old.writer name (records_for to shape id batches) → HoldsCapture files after new.writer name (records_for to shape id (batches ++ batch ∷ []))
  -- in any case, a prefix of the batch's packets was written
  pub part : (to : To) (shape : Option Shape) (id : ℕ) (batches : List Presented) (files : Option Files) (name : List ℕ) → HasPut to shape id batches old.gateway
      → HoldsCapture files before old.writer name (records_for to shape id batches) → HoldsFirst files after new.writer name (records_for to shape id (batches ++ batch ∷ []))
  pub lines : IfOk result (λ so. Appends (written out.held waits) (written out'.held waits') (flat_map skipped_line (skipped_at batch.frame (skip_of old.gateway.to old.gateway.shape old.gateway.given batch))))
  pub cut : OnErr result (Keeps (written out.held waits) (written out'.held waits'))
  pub writes : WritesSlot before after old.writer new.writer (wrote result)
  pub few : new.gateway.given.batches ≤ old.gateway.given.batches + 1
  pub sink : KeepsSink out out' result

-- ---- samples that are returned

-- the output after the samples of the most recent batch were returned: no piece of the batch is left
abbrev pub given_back : Output → Output
given_back o = record o { gateway = record o.gateway { frames = [] } }

-- ---- a capture

-- the result of a conversion, given the result of the hearing
abbrev pub turned_as : Heard → Turned
turned_as (heard.Ended how counts) = turned.Ended how counts.presented
turned_as heard.NoMemory = turned.NoMemory

-- how the reading of a capture ended, if the conversion did not stop earlier
abbrev pub ended_turn : Result Turned Failed → Option End
ended_turn (Ok (turned.Ended how presented)) = Some how
ended_turn (Ok other) = None
ended_turn (Err e) = None

-- whether all packets of a capture were written, in the type of a writer's result
abbrev pub wrote_all : Result Turned Failed → Result Unit Failed
wrote_all (Ok turned.Unwritten) = Err (record {})
wrote_all other = Ok tt

-- No batch was put yet into the capture that is made. The capture that is read and the capture that is made have
-- different names.
pub record IsFreshOutput (asked : Asked) (shape : Option Shape) (files : Option Files) (shelf : ShelfState) (o : Output) : Type 0 where
  pub apart : asked.input ≢ asked.output
  pub named : name_in shelf.slots o.writer.slot ≡ Some asked.output
  pub none : HasPut (format_of asked.to) shape asked.id [] o.gateway
  pub holds : HoldsCapture files shelf o.writer asked.output []

-- No batch was put yet into the capture that is made, and nothing was heard yet of the capture that is read. The
-- capture that is read has these bytes. The two captures have different names.
pub record IsToTurn (asked : Asked) (shape : Option Shape) (bytes : List ℕ) (files : Option Files) (shelf : ShelfState) (source : Sourcing) (listener : ListenState) (o : Output) : Type 0 where
  pub fresh : IsFreshOutput asked shape files shelf o
  pub named : name_in shelf.slots (slot_of source) ≡ Some asked.input
  pub given : HasGivenOf asked.listener.limit bytes shelf source []
  pub stands : StandsFor [] 0 listener
  pub going : is_closed listener ≡ false
  pub plan : listener.plan ≡ plan_of asked.listener

-- These batches were put. For each batch, either its packets were written, or a line with the reason for skipping the
-- batch was printed.
pub record HasTurned (asked : Asked) (shape : Option Shape) (batches : List Presented) (files : Option Files) (shelf : ShelfState) (o : Output) (before now : Option (List ℕ)) : Type 0 where
  pub put : HasPut (format_of asked.to) shape asked.id batches o.gateway
  pub lines : Appends before now (flat_map skipped_line (skips_in asked shape batches))
  pub holds : HoldsCapture files shelf o.writer asked.output (map record_of (turned_frames asked shape batches))

-- A capture of these bytes was heard as far as it could be read. A listener presents batches from the part that was
-- read. Every such batch was put, and `presented` counts these batches.
pub record HasHeard (asked : Asked) (shape : Option Shape) (bytes : List ℕ) (fault : FaultPlace → Type 0) (files : Option Files) (shelf : ShelfState) (o : Output) (how : End) (presented : ℕ) (before now : Option (List ℕ)) : Type 0 where
  pub prefix : List ℕ
  pub ends : EndsAt asked.listener.limit (Some bytes) fault how prefix
  pub turned : HasTurned asked shape (batches_by asked (records_in prefix) how) files shelf o before now
  pub counted : presented ≡ length (batches_by asked (records_in prefix) how)

-- Only some of the batches of a capture of these bytes were put. The written file holds a prefix of the records of all
-- batches. A prefix of the lines of all skipped batches was printed.
pub record IsCutShort (asked : Asked) (shape : Option Shape) (bytes : List ℕ) (files : Option Files) (shelf : ShelfState) (o : Output) (before now : Option (List ℕ)) : Type 0 where
  pub lines : AppendsPrefix before now (flat_map skipped_line (skips_in asked shape (batches_by asked (records_in (take asked.listener.limit bytes)) end.Whole)))
  pub holds : HoldsFirst files shelf o.writer asked.output (map record_of (turned_frames asked shape (batches_by asked (records_in (take asked.listener.limit bytes)) end.Whole)))

abbrev pub TurnsTo : Asked → Option Shape → List ℕ → (FaultPlace → Type 0) → Option Files → ShelfState → Output → Option (List ℕ) → Option (List ℕ) → Result Turned Failed → Type 0
TurnsTo asked shape bytes fault files shelf o before now (Ok (turned.Ended how presented)) = HasHeard asked shape bytes fault files shelf o how presented before now
TurnsTo asked shape bytes fault files shelf o before now other = IsCutShort asked shape bytes files shelf o before now

-- two files are open, each in its own slot: the file that is read, and the file that is written
pub record AreOpenIn (slots : Slots) (source : Sourcing) (o : Output) : Type 0 where
  pub apart : slot_of source ≢ o.writer.slot
  pub live : IsSome (slots (slot_of source))
  pub made : IsMadeIn slots o.writer.slot

-- A capture was written to a file while another file was read. If the written file was at first a capture without
-- records, it is still a capture and may now have records. A writing fault was counted if and only if a packet could
-- not be written.
pub record WritesOutput (before after : ShelfState) (old new : Output) (result : Result Turned Failed) : Type 0 where
  pub slot : new.writer.slot ≡ old.writer.slot
  pub made : IsMadeIn after.slots old.writer.slot
  pub holds : (files : Option Files) (name : List ℕ) → HoldsCapture files before old.writer name [] → (more : List Record) × HoldsCapture files after new.writer name more
  pub unwritten : OnErr (wrote_all result) (Rose before.writing_faults after.writing_faults)
  pub written : OnOk (wrote_all result) (after.writing_faults ≡ before.writing_faults)
  pub falls : before.writing_faults ≤ after.writing_faults
  pub reading : before.reading_faults.count ≤ after.reading_faults.count

-- A capture was converted, as far as it could be read and written.
pub record Turns (before after : ShelfState) (source source' : Sourcing) (listener : ListenState) (old new : Output) (out out' : SinkState) (waits waits' : List ℕ) (result : Result Turned Failed) : Type 0 where
  pub told : (asked : Asked) (shape : Option Shape) (bytes : List ℕ) (files : Option Files) → IsToTurn asked shape bytes files before source listener old
      → TurnsTo asked shape bytes (FailsAt before.reading_faults after.reading_faults) files after new (written out.held waits) (written out'.held waits') result
  pub slot : slot_of source' ≡ slot_of source
  -- Each slot keeps its file. The unread bytes change only in slots of two kinds: the slot that is read, and slots of
  -- the file that is written.
  pub same : (j : ℕ) → option_map file_of (after.slots j) ≡ option_map file_of (before.slots j)
  pub left : (j : ℕ) → j ≢ slot_of source → name_in before.slots j ≢ name_in before.slots old.writer.slot → left_in after.slots j ≡ left_in before.slots j
  pub writes : WritesOutput before after old new result
  pub counted : (how : End) → ended_turn result ≡ Some how → CountsFault None (Some how) before.reading_faults after.reading_faults
  pub asked : AsksNothing before after
  pub sink : KeepsSink out out' result
