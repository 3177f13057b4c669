-- What `gateway` prints, how it ends, and what it makes.
use Rattle.std.specs.Prelude.{zero, false, ℕ, codes, List, [], ◌∷◌, Option, Some, None, ◌++◌, take, length, flat_map, ◌==◌, if◌then◌else◌, ◌≡◌, ◌≢◌, ◌⊎◌, ◌^◌, ◌≤◌}
use Rattle.am824_gateway.specs.declared.scan.To.{To}
use Rattle.avtp_words.specs.declared.gateway.GatewayFormat.{GatewayFormat}
use Rattle.am824_gateway.specs.declared.scan.ScanFault.{ScanFault}
use Rattle.am824_gateway.specs.Scan.{FaultAt, first_fault, shape_in}
use Rattle.avtp_text.specs.Gateway.{gateway_input_line, skip_line, gateway_line}
use Rattle.am824_gateway.specs.declared.skip.Skip.{Skip}
use Rattle.sample_schedule.specs.Batches.{Presented}
use Rattle.am824_gateway.specs.declared.scan.Shape.{Shape}
use Rattle.am824_gateway.specs.Pieces.{Given, given_with, skip_by, unless, skip_of, nothing_given}
use Rattle.pcap_frames.specs.Capture.{Record, whole_records}
use Rattle.capture_io.specs.Formats.{records_in}
use Rattle.avtp_words.specs.Grammar.{Turning}
use Rattle.capture_io.specs.declared.end.End.{End}
use Rattle.listener.specs.Laws.{presented_of}
use Rattle.talker.specs.Frames.{SentFrame, capture_of}
use Rattle.am824_gateway.specs.Packets.{gateway_frames}
use Rattle.capture_io.specs.Ends.{end_of, EndsAt}
use Rattle.avtp_base.specs.declared.failed.FaultPlace.TheVariants as fault_place
use Rattle.avtp_base.specs.declared.failed.FaultPlace.{FaultPlace}
use Rattle.avtp_base.specs.Files.{Files}
use Rattle.gateway_laws.specs.Kept.{Keeps, SkipsNone}
use Rattle.sample_schedule.specs.Limits.{IsPlan}
use Rattle.listener.specs.Heard.{schedule_plan}
use Rattle.am824_gateway.specs.declared.scan.To.TheVariants as to
use Rattle.avtp_words.specs.declared.gateway.GatewayFormat.TheVariants as words
use Rattle.am824_gateway.specs.declared.scan.ScanFault.TheVariants as fault
use Rattle.am824_gateway.specs.declared.skip.Skip.TheVariants as skip
use Rattle.capture_io.specs.declared.end.End.TheVariants as end
use Rattle.run_report.specs.Listener.{plan_of}
use Rattle.run_report.specs.Endings.{side_line}
use Rattle.run_report.specs.declared.status.Status.{Status}
use Rattle.run_report.specs.Status.{status_of}
use Rattle.run_report.specs.Runs.{Task}
use Rattle.run_report.specs.Yield.{Yield, says}
use Rattle.run_report.specs.RunReport.{Halts, RunReport, ends_unread}
use Rattle.run_report.specs.Halt.{CanHalt, Halt, no_halt, not_opened, stopped_after}
use Rattle.run_report.specs.Lines.{of_each}
use Rattle.run_report.specs.declared.status.Status.TheVariants as status
use Rattle.capture_hearing.specs.Shown.{shown_by}
use Rattle.check_command.specs.Check.{check_lines}

-- the format that the words ask for, in the gateway's own type
abbrev pub format_of : GatewayFormat → To
format_of words.Am824 = to.Am824
format_of words.Aaf = to.Aaf

-- ---- names and lines

-- the printed name of the reason why a stream cannot be converted
abbrev pub fault_name : ScanFault → List ℕ
fault_name fault.Kind = codes "kind"
fault_name fault.Format = codes "format"
fault_name fault.Rate = codes "rate"
fault_name fault.Channels = codes "channels"
fault_name fault.Label = codes "label"

-- the line of a record that cannot be converted
abbrev pub fault_line : FaultAt → List ℕ
fault_line at = gateway_input_line (fault_name at.fault) at.frame

-- the printed name of a reason to skip a batch
abbrev pub skip_name : Skip → List ℕ
skip_name skip.ShapeOff = codes "shape"
skip_name skip.Overlap = codes "overlap"
skip_name skip.Range = codes "range"

-- A skipped batch: the number of the frame that carries the batch's packet, and the reason why the batch is skipped.
pub record Skipped : Type 0 where
  pub frame : ℕ
  pub why : Skip

-- the line of a skipped batch
abbrev pub skipped_line : Skipped → List ℕ
skipped_line s = skip_line s.frame (skip_name s.why)

-- ---- skipped batches

-- the skipped batch of frame `frame`, if there is a reason to skip it
abbrev pub skipped_at : ℕ → Option Skip → List Skipped
skipped_at frame None = []
skipped_at frame (Some why) = record { frame = frame; why = why } ∷ []

-- What the gateway has given out after `batch`. `given` is what the gateway had given out before `batch`. A skipped
-- batch changes nothing.
abbrev pub given_next : To → Option Shape → Given → Presented → Given
given_next to None given batch = given
given_next to (Some shape) given batch = unless (skip_by to shape given batch) (given_with to shape given batch) given

-- The skipped batches of a list, in order. `given` is what the gateway had given out before the first batch of the
-- list.
abbrev pub skips_after : To → Option Shape → Given → List Presented → List Skipped
skips_after to shape given [] = []
skips_after to shape given (batch ∷ batches) =
    skipped_at batch.frame (skip_of to shape given batch) ++ skips_after to shape (given_next to shape given batch) batches

-- ---- a capture that is converted

-- the records that are read from IN within the limit
abbrev pub records_of : Turning → List ℕ → List Record
records_of asked bytes = records_in (take asked.listener.limit bytes)

-- the first of these records that cannot be converted, if any
abbrev pub fault_in : Turning → List Record → Option FaultAt
fault_in asked records = first_fault (format_of asked.to) asked.listener.stream records

-- the shape of the stream in these records
abbrev pub shape_asked : Turning → List Record → Option Shape
shape_asked asked records = shape_in asked.listener.stream records

-- the batches that a listener presents from these records, given how the reading of their capture ended
abbrev pub batches_by : Turning → List Record → End → List Presented
batches_by asked records how = presented_of (shown_by (plan_of asked.listener) records how)

-- the frames of the packets that carry these batches, for a stream of this shape
abbrev pub turned_frames : Turning → Option Shape → List Presented → List SentFrame
turned_frames asked shape batches = gateway_frames (format_of asked.to) shape asked.id batches

-- the skipped batches of this list
abbrev pub skips_in : Turning → Option Shape → List Presented → List Skipped
skips_in asked shape batches = skips_after (format_of asked.to) shape nothing_given batches

-- the capture that is made: one record for each frame
abbrev pub turned_capture : Turning → Option Shape → List Presented → List ℕ
turned_capture asked shape batches = capture_of (turned_frames asked shape batches)

-- The last line, given how the reading ended. The line has the numbers of batches, packets and skipped batches, or says
-- why the capture was not read to its end.
abbrev pub turned_last : Turning → Option Shape → List Presented → End → List ℕ
turned_last asked shape batches end.Whole =
    gateway_line (length batches) (length (turned_frames asked shape batches)) (length (skips_in asked shape batches))
turned_last asked shape batches how = side_line asked.listener.limit how

-- the text: a line for each skipped batch, then the last line
abbrev pub turned_text : Turning → Option Shape → List Presented → End → List ℕ
turned_text asked shape batches how = flat_map skipped_line (skips_in asked shape batches) ++ turned_last asked shape batches how

-- The status of a run, given the number of skipped batches and how the reading ended. If the capture was read to its
-- end, the status says whether batches were skipped. If the capture was not read to its end, the status says how the
-- reading ended.
abbrev pub turned_status : ℕ → End → Status
turned_status skipped end.Whole = if skipped == 0 then status.Done else status.Findings
turned_status skipped how = status_of how

-- ---- a run

-- the first bytes of IN that are read after OUT was made
abbrev pub read_again : Turning → List ℕ → Halt → List ℕ
read_again asked bytes no_halt = take asked.listener.limit bytes
read_again asked bytes (not_opened place) = []
read_again asked bytes (stopped_after place after) = take after bytes

-- how the reading of IN ends after OUT was made
abbrev pub again_end : Halt → End
again_end no_halt = end.Whole
again_end halt = end.ReadFault

-- a run of `gateway` that makes no capture
abbrev pub unturned : Turning → Status → List ℕ → RunReport
unturned asked ended text = record { came = asked.input ∷ []; ended = ended; yields = says text; made = None }

-- a run of `gateway` that made a capture of these batches, given how the second reading of IN ended
abbrev pub turned_by : Turning → Option Shape → List Presented → End → RunReport
turned_by asked shape batches how = record {
  came = asked.input ∷ asked.output ∷ asked.input ∷ [];
  ended = turned_status (length (skips_in asked shape batches)) how;
  yields = says (turned_text asked shape batches how);
  made = Some (turned_capture asked shape batches);
}

-- What `gateway` does, given the bytes of IN, the run's read fault, the first scanned record that cannot be converted,
-- if any, and how the scan ended.
abbrev pub gateway_by : Turning → List ℕ → Halt → Option FaultAt → End → RunReport
gateway_by asked bytes halt (Some at) how = unturned asked status.TalkInput (fault_line at)
gateway_by asked bytes halt None end.Whole =
    turned_by asked (shape_asked asked (records_of asked bytes)) (batches_by asked (records_in (read_again asked bytes halt)) (again_end halt)) (again_end halt)
gateway_by asked bytes halt None how = unturned asked (status_of how) (side_line asked.listener.limit how)

-- What `gateway` does, given the bytes of IN, or `None` if IN is missing. IN is read twice: it is scanned, and it is
-- read again after OUT was made.
abbrev pub gateway_report : Turning → Option (List ℕ) → Halt → RunReport
gateway_report asked None halt = ends_unread (asked.input ∷ [])
gateway_report asked (Some bytes) (not_opened zero) = ends_unread (asked.input ∷ [])
gateway_report asked (Some bytes) (stopped_after zero after) =
    gateway_by asked bytes (stopped_after zero after) (fault_in asked (records_in (take after bytes))) end.ReadFault
gateway_report asked (Some bytes) halt = gateway_by asked bytes halt (fault_in asked (records_of asked bytes)) (end_of asked.listener.limit bytes)

-- ---- what the capture keeps

-- The capture was scanned to its end, and each of its records can be converted.
pub record CanTurn (asked : Turning) (bytes : List ℕ) : Type 0 where
  pub whole : end_of asked.listener.limit bytes ≡ end.Whole
  pub none : fault_in asked (records_of asked bytes) ≡ None

-- A read fault of the second reading of IN, which has these bytes: `fault` holds of its place. If IN could not be opened
-- again, the place counts as being before the first byte.
abbrev pub FailsAgain : List ℕ → (FaultPlace → Type 0) → FaultPlace → Type 0
FailsAgain bytes fault place = fault place ⊎ (fault fault_place.Opening × (place ≡ fault_place.Reading (length bytes)))

-- IN can be converted, and its stream has the shape `shape`. IN was read again, to its end or to a read fault.
-- `batches` are the batches that a listener presents from the bytes that were read.
pub record HearsInput (asked : Turning) (files : Files) (fault : FaultPlace → Type 0) (shape : Option Shape) (batches : List Presented) (how : End) : Type 0 where
  pub bytes : List ℕ
  pub prefix : List ℕ
  pub told : files asked.input ≡ Some bytes
  pub can : CanTurn asked bytes
  pub ends : EndsAt asked.listener.limit (Some bytes) (FailsAgain bytes fault) how prefix
  pub shape_is : shape ≡ shape_asked asked (records_of asked bytes)
  pub presented : batches ≡ batches_by asked (records_in prefix) how

-- What the capture OUT keeps of IN. OUT is a whole capture. If a listener has no clock and its buffer is never full,
-- the listener presents from OUT exactly the samples of the batches of IN that are not skipped. The presented samples
-- have the same order, values and instants as in IN. `check` prints no finding for OUT. If the status is 0, no batch is
-- skipped.
pub record KeepsInput (asked : Turning) (files : Files) (fault : FaultPlace → Type 0) (ended : Status) (capture : List ℕ) : Type 0 where
  pub shape : Option Shape
  pub batches : List Presented
  pub how : End
  pub heard : HearsInput asked files fault shape batches how
  pub keeps : Keeps (format_of asked.to) shape asked.id batches capture
  pub silent : of_each check_lines (whole_records capture) ≡ []
  pub all : ended ≡ status.Done → SkipsNone (format_of asked.to) shape batches

-- the values that the words give to `gateway` are within their bounds
pub record IsTurning (asked : Turning) : Type 0 where
  pub limit : asked.listener.limit ≤ 2 ^ 40
  pub plan : IsPlan (schedule_plan (plan_of asked.listener))
  pub apart : asked.input ≢ asked.output

-- what a run of `gateway` over these files did, under one of the read faults that are possible
abbrev pub GatewayYields : Turning → Files → (FaultPlace → Type 0) → List (List ℕ) → Status → Yield → Option (List ℕ) → Type 0
GatewayYields asked files fault came ended yields made =
    Halts (CanHalt asked.listener.limit (asked.input ∷ asked.input ∷ []) files fault) (gateway_report asked (files asked.input)) came ended yields made

-- what the words ask `gateway` to do
abbrev pub gateway_task : Turning → Task
gateway_task asked = record {
  reads = asked.input ∷ [];
  output = Some asked.output;
  again = asked.input ∷ [];
  listens = false;
  Comes = λ files fault failed came ended yields made. GatewayYields asked files fault came ended yields made;
}
