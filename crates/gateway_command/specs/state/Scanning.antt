-- Only private functions and proofs use these definitions. A capture that is scanned for records that
-- cannot be converted.
use Rattle.std.specs.Prelude.{Option, Some, None, ◌≡◌, ℕ, List, take, ◌≢◌, [], IfSome, ◌∷◌, Result, Ok, Err, IfErr, IfOk, IsErrOf}
use Rattle.capture_io.specs.declared.end.End.{End}
use Rattle.am824_gateway.specs.declared.scan.Shape.{Shape}
use Rattle.capture_io.specs.Ends.{EndsAt, end_of, CountsFault}
use Rattle.capture_io.specs.Formats.{records_in}
use Rattle.am824_gateway.specs.declared.scan.To.{To}
use Rattle.am824_gateway.specs.Scan.{first_fault, shape_in, IsShape}
use Rattle.avtp_base.specs.declared.failed.FaultPlace.{FaultPlace}
use Rattle.avtp_base.specs.Faults.{FailsAt, IsOpeningCounted}
use Rattle.avtp_base.specs.States.{ShelfState}
use Rattle.capture_io.specs.Source.{HasGivenOf, Sourcing, slot_of}
use Rattle.avtp_base.specs.declared.failed.OpenFault.{OpenFault}
use Rattle.avtp_base.specs.Files.{Files, IsMissing}
use Rattle.capture_io.specs.Reads.{OnlyReads}
use Rattle.avtp_words.specs.Grammar.{Turning}
use Rattle.capture_io.specs.declared.end.End.TheVariants as end
use Rattle.avtp_base.specs.declared.failed.OpenFault.TheVariants as open_fault
use Rattle.run_report.specs.Reading.{ReadsCapture}
use Rattle.gateway_command.specs.declared.scanning.Scanned.{Scanned}
use Rattle.gateway_command.specs.Gateway.{format_of}
use Rattle.gateway_command.specs.declared.scanning.Scanned.TheVariants as scanned

-- how the reading of the file ended, if no record stopped the scan
abbrev pub ended_scan : Scanned → Option End
ended_scan (scanned.Clean shape) = Some end.Whole
ended_scan (scanned.Faulty fault frame) = None
ended_scan (scanned.Cut how) = Some how

-- The result of a scan in which no record has a fault, given how the reading ended and the shape of the stream.
abbrev pub scanned_as : End → Option Shape → Scanned
scanned_as end.Whole shape = scanned.Clean shape
scanned_as how shape = scanned.Cut how

-- What the result of a scan says of the stream in a file of these bytes. The stream is to be converted to the format
-- `to`.
abbrev pub ScansTo : To → ℕ → ℕ → List ℕ → (FaultPlace → Type 0) → Scanned → Type 0
ScansTo to stream limit bytes fault (scanned.Clean shape) =
    (end_of limit bytes ≡ end.Whole) × (first_fault to stream (records_in (take limit bytes)) ≡ None) × (shape ≡ shape_in stream (records_in (take limit bytes)))
ScansTo to stream limit bytes fault (scanned.Faulty why frame) =
    first_fault to stream (records_in (take limit bytes)) ≡ Some (record { frame = frame; fault = why })
ScansTo to stream limit bytes fault (scanned.Cut how) =
    (prefix : List ℕ) × EndsAt limit (Some bytes) fault how prefix × (first_fault to stream (records_in prefix) ≡ None)

-- The records of an open capture were scanned until one could not be converted or the reading ended.
pub record ScansRecords (to : To) (stream : ℕ) (shelf shelf' : ShelfState) (old new : Sourcing) (result : Scanned) : Type 0 where
  pub told : (limit : ℕ) (bytes : List ℕ) → HasGivenOf limit bytes shelf old [] → ScansTo to stream limit bytes (FailsAt shelf.reading_faults shelf'.reading_faults) result
  pub reads : ReadsCapture shelf shelf' (slot_of old) (slot_of new) (ended_scan result)
  pub cut : (how : End) → result ≡ scanned.Cut how → how ≢ end.Whole
  pub sound : (shape : Option Shape) → result ≡ scanned.Clean shape → IfSome shape IsShape

-- With `Ok`, the capture to convert was opened, scanned and closed. If the result is `Err`, the capture was not opened.
pub record ScansFile (asked : Turning) (shelf shelf' : ShelfState) (result : Result Scanned OpenFault) : Type 0 where
  pub told : IfOk result (λ found. (all : Files) → shelf.files ≡ Some all
      → (bytes : List ℕ) × (all asked.input ≡ Some bytes) × ScansTo (format_of asked.to) asked.listener.stream asked.listener.limit bytes (FailsAt shelf.reading_faults shelf'.reading_faults) found)
  pub keeps : OnlyReads shelf shelf' (asked.input ∷ [])
  pub missing : IsErrOf result open_fault.Missing → IsMissing shelf.files asked.input
  pub refused : IfErr result (λ fault. IsOpeningCounted {T = Sourcing} shelf.reading_faults shelf'.reading_faults (Err fault))
  pub counted : IfOk result (λ found. CountsFault None (ended_scan found) shelf.reading_faults shelf'.reading_faults)
  pub cut : (how : End) → result ≡ Ok (scanned.Cut how) → how ≢ end.Whole
  pub sound : (shape : Option Shape) → result ≡ Ok (scanned.Clean shape) → IfSome shape IsShape
