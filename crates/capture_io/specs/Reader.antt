-- What the state of a reader of captures in either layout means.
use Rattle.std.specs.Prelude.{◌≡◌, ℕ, ◌<◌, ◌≤◌, List, [], length, Option, None, Some}
use Rattle.avtp_base.specs.declared.refusal.Refusal.{Refusal}
use Rattle.pcap_frames.specs.Capture.{Record}
use Rattle.pcap_frames.specs.Readers.{Progress}
pub use Rattle.pcap_frames.specs.Readers.{IsView}
use Rattle.pcap_frames.specs.Reading as classic
use Rattle.pcapng_frames.specs.Reading as ng
use Rattle.capture_io.specs.declared.capture_reader.Format.{Format}
use Rattle.capture_io.specs.declared.capture_reader.Format.TheVariants.{Classic, Pcapng}
use Rattle.capture_io.specs.Formats.{format_in, certain_in}

-- The state of a reader of captures in either layout: the layout, once it is known, and a reader of each layout.
-- `front` are the bytes that arrived before the layout was known.
pub record CaptureReading : Type 0 where
  pub format : Option Format
  pub front : List ℕ
  pub classic : classic.Reading
  pub ng : ng.Reading

-- the state of the reader of this layout, as contracts see it
abbrev pub progress_by : Format → classic.Reading → ng.Reading → Progress
progress_by Classic c n = classic.progress c
progress_by Pcapng c n = ng.progress n

-- the refusal, if any, of a reader that has found this layout
abbrev pub refusal_by : Option Format → CaptureReading → Option Refusal
refusal_by None r = None
refusal_by (Some format) r = (progress_by format r.classic r.ng).refusal

-- the refusal of a reader, if any
abbrev pub refusal_of : CaptureReading → Option Refusal
refusal_of r = refusal_by r.format r

-- the record that a reader holds if the reader has found this layout
abbrev pub held_by : Option Format → CaptureReading → Option Record
held_by None r = None
held_by (Some format) r = (progress_by format r.classic r.ng).held

-- the record that the reader holds
abbrev pub held : CaptureReading → Option Record
held r = held_by r.format r

-- Which bytes a reader has taken, and which records it has released. While the layout is unknown, the reader has fewer
-- than four bytes and has released no record. Once the layout is known, the reader of that layout has taken these bytes
-- and released these records.
abbrev pub StandsFor : Option Format → CaptureReading → List ℕ → List Record → Type 0
StandsFor None r bytes records = (bytes ≡ r.front) × (length bytes < 4) × (records ≡ [])
StandsFor (Some format) r bytes records =
    (progress_by format r.classic r.ng).has_read bytes records × (4 ≤ length bytes) × (format_in bytes ≡ format)

-- The reader has taken these bytes and released these records, in order. If the reader has no refusal, `certain_in` is
-- `None` for these bytes.
pub record HasRead (r : CaptureReading) (bytes : List ℕ) (records : List Record) : Type 0 where
  pub stands : StandsFor r.format r bytes records
  pub uncertain : refusal_of r ≡ None → certain_in bytes ≡ None
