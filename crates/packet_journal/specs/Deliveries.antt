-- The records of a capture that belong to a stream or to its clock.
use Rattle.std.specs.Prelude.{ℕ, ◌==◌, Bool, ◌&&◌, ◌||◌, false, nat_le, is_none, ℤ, List, [], ◌∷◌, length, filter, map, Option, Some, None}
use Rattle.std.specs.List.{enumerate_from, list_any}
use Rattle.pcap_frames.specs.Capture.{Record}
use Rattle.pcap_frames.specs.Frame.{frame_of, frame_refusal}
use Rattle.avtp_header.specs.declared.header.Peeked.{Peeked}
use Rattle.avtp_header.specs.Header.{peeked_of}
use Rattle.avtp_header.specs.Numbers.{aaf_subtype, crf_subtype, cvf_subtype, iec_subtype}
pub use Rattle.avtp_header.specs.Numbers.{avtp_ethertype}

-- the subtypes of a stream's packets (IEEE 1722-2016, table 6)
abbrev pub stream_kinds : List ℕ
stream_kinds =
    iec_subtype ∷
    aaf_subtype ∷
    cvf_subtype ∷
    []

-- the subtypes of a media clock's packets: CRF
abbrev pub clock_kinds : List ℕ
clock_kinds = crf_subtype ∷ []

-- the payload of the Ethernet frame that a record's bytes hold
abbrev pub packet_in : List ℕ → List ℕ
packet_in bytes = (frame_of bytes).payload

-- the record is an Ethernet frame of AVTP whose payload has at least 12 bytes, enough for the stream ID
abbrev pub is_avtp : List ℕ → Bool
is_avtp bytes =
    is_none (frame_refusal bytes)
    && ((frame_of bytes).ethertype == avtp_ethertype)
    && nat_le 12 (length (packet_in bytes))

-- the packet's subtype is in the list, and its stream ID is valid and equal to the wanted one
abbrev pub is_wanted : List ℕ → ℕ → Peeked → Bool
is_wanted kinds id peeked = list_any (λ kind. peeked.subtype == kind) kinds && peeked.sv && (peeked.stream_id == id)

-- the record holds a packet of AVTP with one of these subtypes and this stream ID
abbrev pub belongs : List ℕ → ℕ → List ℕ → Bool
belongs kinds id bytes = is_avtp bytes && is_wanted kinds id (peeked_of (packet_in bytes))

-- the record holds a packet of the media clock with this stream ID; false if there is no clock
abbrev pub belongs_to_clock : Option ℕ → List ℕ → Bool
belongs_to_clock None bytes = false
belongs_to_clock (Some id) bytes = belongs clock_kinds id bytes

-- the record belongs to the stream, or to the clock if there is one
abbrev pub is_delivered : ℕ → Option ℕ → List ℕ → Bool
is_delivered stream clock bytes = belongs stream_kinds stream bytes || belongs_to_clock clock bytes

-- A delivery has three parts: the number of its record in the capture, counted from 1; the time of capture; and the
-- packet, with the packet's subtype and sequence number.
pub record Delivery : Type 0 where
  pub frame : ℕ
  pub arrival : ℤ
  pub subtype : ℕ
  pub seq : ℕ
  pub packet : List ℕ

-- the delivery that a listener gets from the record with this number in the capture
abbrev pub delivery : ℕ → Record → Delivery
delivery frame r = record {
  frame = frame;
  arrival = r.arrival;
  subtype = (peeked_of (packet_in r.bytes)).subtype;
  seq = (peeked_of (packet_in r.bytes)).seq;
  packet = packet_in r.bytes;
}

-- the deliveries among the records of a capture, in the order of the records
abbrev pub deliveries : ℕ → Option ℕ → List Record → List Delivery
deliveries stream clock records =
    map (λ numbered. delivery numbered.0 numbered.1)
    (filter (λ numbered. is_delivered stream clock numbered.1.bytes) (enumerate_from 1 records))
