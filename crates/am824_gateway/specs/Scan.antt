-- Why a capture cannot be converted to the other format.
use Rattle.std.specs.Prelude.{◌≡◌, ℕ, suc, ◌≤◌, ◌==◌, Bool, true, false, not, ◌||◌, nat_lt, if◌then◌else◌, List, [], ◌∷◌, Option, Some, None, IsSome, is_none}
use Rattle.pcap_frames.specs.Capture.{Record}
use Rattle.talk_plan.specs.Plan.{fdf_of}
use Rattle.am824_gateway.specs.declared.scan.ScanFault.{ScanFault}
use Rattle.am824_gateway.specs.declared.scan.ScanFault.TheVariants.{Kind, Format, Rate, Channels, Label}
use Rattle.am824_gateway.specs.declared.scan.Shape.{Shape}
use Rattle.am824_gateway.specs.declared.scan.To.{To}
use Rattle.am824_gateway.specs.declared.scan.To.TheVariants.{Aaf, Am824}
use Rattle.am824_gateway.specs.declared.content.Content.{Content}
use Rattle.am824_gateway.specs.declared.content.Content.TheVariants.{Silent, Video, Audio}
use Rattle.am824_gateway.specs.declared.content.Samples.{Samples}
use Rattle.am824_gateway.specs.Content.{content}

-- ---- the shape of a stream

-- A shape that can be converted: a sample rate of IEC 61883-6, and 1 to 256 channels, because a data block has at most
-- 256 quadlets (IEC 61883-1).
pub record IsShape (shape : Shape) : Type 0 where
  pub rate : IsSome (fdf_of shape.rate)
  pub some : 1 ≤ shape.channels
  pub most : shape.channels ≤ 256

-- the shape of a packet of samples
abbrev pub shape_of : Samples → Shape
shape_of s = record { rate = s.rate; channels = s.channels }

-- the shape of the stream's first packet of samples: `first` if there was an earlier packet of samples, and otherwise
-- the shape of this packet
abbrev pub first_or : Option Shape → Samples → Shape
first_or None s = shape_of s
first_or (Some first) s = first

-- The shape of the stream's first packet of samples, as it is known after one more record. `first` is the shape that
-- was known before the record.
abbrev pub shape_after : Option Shape → Content → Option Shape
shape_after None Silent = None
shape_after None Video = None
shape_after None (Audio s) = Some (shape_of s)
shape_after (Some first) c = Some first

-- The shape of the stream's first packet of samples, as it is known after these records. `first` is the shape that was
-- known before these records.
abbrev pub shape_from : ℕ → Option Shape → List Record → Option Shape
shape_from stream first [] = first
shape_from stream first (r ∷ records) = shape_from stream (shape_after first (content stream r.bytes)) records

-- The shape of a stream: the sample rate and the channels of its first packet of samples.
abbrev pub shape_in : ℕ → List Record → Option Shape
shape_in stream records = shape_from stream None records

-- ---- faults

-- A fault, and whether a packet has it.
pub record Row : Type 0 where
  pub fault : ScanFault
  pub holds : Bool

-- the row that says whether a packet has this fault
abbrev pub row : ScanFault → Bool → Row
row fault holds = record { fault = fault; holds = holds }

-- the first fault that the packet has, in the order of the rows
abbrev pub first_of : List Row → Option ScanFault
first_of [] = None
first_of (r ∷ rows) = if r.holds then Some r.fault else first_of rows

-- two formats are equal
abbrev pub same_format : To → To → Bool
same_format Am824 Am824 = true
same_format Am824 Aaf = false
same_format Aaf Am824 = false
same_format Aaf Aaf = true

-- IEC 61883-6 does not have this sample rate, or the rate differs from that of the first packet
abbrev pub other_rate : Shape → ℕ → Bool
other_rate first rate = is_none (fdf_of rate) || not (rate == first.rate)

-- The faults of a packet of samples, in the order in which they are tested. `Kind`: the packet has the wanted format
-- already. `Format`: the samples are PCM that does not have 24 bits or does not use all of its bits. `Rate`: IEC
-- 61883-6 does not have the rate, or the rate differs from that of the first packet. `Channels`: a data block cannot
-- have this number of channels, or the number differs from that of the first packet. `Label`: a quadlet is not linear
-- audio of 24 bits.
abbrev pub fault_rows : To → Shape → Samples → List Row
fault_rows to first s =
    row Kind (same_format s.format to) ∷
    row Format (not s.whole) ∷
    row Rate (other_rate first s.rate) ∷
    row Channels (nat_lt 256 s.channels || not (s.channels == first.channels)) ∷
    row Label (not s.linear) ∷ []

-- The fault of a record's content. If the stream's first packet of samples comes before this record, `first` is the
-- shape of that packet; otherwise `first` is `None`. A record without anything that can be presented (`Silent`) has no
-- fault. A packet of H.264 always has the fault `Kind`.
abbrev pub content_fault : To → Option Shape → Content → Option ScanFault
content_fault to first Silent = None
content_fault to first Video = Some Kind
content_fault to first (Audio s) = first_of (fault_rows to (first_or first s) s)

-- A record with a fault: the number of the record in the capture, and the fault. Records are numbered from 1.
pub record FaultAt : Type 0 where
  pub frame : ℕ
  pub fault : ScanFault

-- The fault of record `frame`. If this record has no fault, the result is `later`, the first fault of the records after
-- it.
abbrev pub fault_or : ℕ → Option ScanFault → Option FaultAt → Option FaultAt
fault_or frame None later = later
fault_or frame (Some fault) later = Some (record { frame = frame; fault = fault })

-- The first fault in these records, which are numbered from `frame` on. If the stream's first packet of samples comes
-- before these records, `first` is the shape of that packet; otherwise `first` is `None`.
abbrev pub fault_from : To → ℕ → Option Shape → ℕ → List Record → Option FaultAt
fault_from to stream first frame [] = None
fault_from to stream first frame (r ∷ records) =
    fault_or frame (content_fault to first (content stream r.bytes))
    (fault_from to stream (shape_after first (content stream r.bytes)) (suc frame) records)

-- The first fault of a capture's records: the first record that cannot be converted, and why.
abbrev pub first_fault : To → ℕ → List Record → Option FaultAt
first_fault to stream records = fault_from to stream None 1 records

-- ---- a scan

-- a scan: the wanted format, the stream's ID, and the shape of the stream's first packet of samples
pub record Scanning : Type 0 where
  pub to : To
  pub stream : ℕ
  pub shape : Option Shape

-- the scan has read these records, and none of them has a fault
pub record HasScanned (to : To) (stream : ℕ) (records : List Record) (scan : Scanning) : Type 0 where
  pub to_is : scan.to ≡ to
  pub stream_is : scan.stream ≡ stream
  pub shape : scan.shape ≡ shape_in stream records
  pub none : first_fault to stream records ≡ None
