-- What listeners present from a gateway's capture, and what `check` finds in it.
use Rattle.std.specs.Prelude.{◌≡◌, ℕ, true, List, [], ◌∷◌, ◌++◌, map, Option, Some, None, ⊤}
use Rattle.std.specs.List.{AllByRecursion, flat_map}
use Rattle.pcap_frames.specs.Capture.{Record, first_refusal, whole_records}
use Rattle.pcap_frames.specs.Frame.{frame_of, frame_refusal}
use Rattle.sample_schedule.specs.Batches.{Presented}
use Rattle.sequence_track.specs.declared.seen.Seen.{Seen}
use Rattle.sequence_track.specs.Findings.{findings}
use Rattle.packet_journal.specs.Deliveries.{avtp_ethertype, packet_in}
use Rattle.avtp_packet.specs.Packet.{packet_of, packet_refusal}
use Rattle.avtp_packet.specs.PacketStream.{has_reserved, stream_of}
use Rattle.avtp_packet.specs.StampPattern.{stamp_is_off}
use Rattle.talker.specs.Frames.{record_of}
use Rattle.listener.specs.declared.plan.ListenPlan.{ListenPlan}
use Rattle.listener.specs.Heard.{shown_of}
use Rattle.listener.specs.Laws.{presented_of}
use Rattle.am824_gateway.specs.declared.scan.Shape.{Shape}
use Rattle.am824_gateway.specs.declared.scan.To.{To}
use Rattle.am824_gateway.specs.Laws.{given_batches}
use Rattle.am824_gateway.specs.Packets.{gateway_frames}
use Rattle.am824_gateway.specs.Pieces.{nothing_given}
use Rattle.gateway_laws.specs.Samples.{samples_presented}
use Rattle.gateway_laws.specs.Carried.{samples_heard}
use Rattle.gateway_laws.specs.InOrder.{IsNotFull}
use Rattle.gateway_laws.specs.Noted.{nothing_found}

-- ---- what listeners present

-- The listener hears the stream with this ID and has no clock. The listener's buffer is never full for these records.
pub record Hears (id : ℕ) (plan : ListenPlan) (records : List Record) : Type 0 where
  pub stream : plan.stream ≡ id
  pub clock : plan.clock ≡ None
  pub room : AllByRecursion IsNotFull (shown_of plan records)

-- A listener presents from a gateway's capture exactly the samples of the batches that the gateway did not skip. Each
-- sample is presented once, in order, with the same value at the same instant. If the stream has no shape, nothing is
-- presented.
abbrev pub Presents : To → Option Shape → List Presented → List Presented → Type 0
Presents to None batches heard = heard ≡ []
Presents to (Some shape) batches heard = flat_map (samples_heard to shape) heard ≡ flat_map (samples_presented to shape) (given_batches to shape nothing_given batches)

-- no batch is skipped; if the stream has no shape, there is no batch
abbrev pub SkipsNone : To → Option Shape → List Presented → Type 0
SkipsNone to None batches = batches ≡ []
SkipsNone to (Some shape) batches = given_batches to shape nothing_given batches ≡ batches

-- ---- what `check` finds

-- `seen` is what `check` notes about a record. The record is an Ethernet frame that holds a packet of a stream with a
-- valid ID.
pub record IsNotedAs (bytes : List ℕ) (seen : Seen) : Type 0 where
  pub frame : frame_refusal bytes ≡ None
  pub ethertype : (frame_of bytes).ethertype ≡ avtp_ethertype
  pub packet : packet_refusal (packet_in bytes) ≡ None
  pub stream : stream_of (packet_of (packet_in bytes)) ≡ Some (record { subtype = seen.subtype; id = seen.id; sv = true; seq = seen.seq; mr = seen.mr })
  pub reserved : has_reserved (packet_of (packet_in bytes)) ≡ seen.reserved
  pub stamp : stamp_is_off (packet_of (packet_in bytes)) ≡ seen.stamp_wrong

-- After `check` has made `notes`, it makes a note of each of these records, and finds nothing in any of the records.
abbrev pub FindsNothingAfter : List Seen → List Record → Type 0
FindsNothingAfter notes [] = ⊤
FindsNothingAfter notes (r ∷ records) =
    (seen : Seen) × IsNotedAs r.bytes seen × (findings notes seen ≡ nothing_found) × FindsNothingAfter (notes ++ seen ∷ []) records

-- ---- a capture as a whole

-- The bytes are a whole capture. The capture's records are the frames that a gateway sends for these batches, in this
-- format and under this stream ID. If a listener has no clock and its buffer is never full, the listener presents
-- exactly the samples of the batches that were not skipped. `check` finds nothing in the capture.
pub record Keeps (to : To) (shape : Option Shape) (id : ℕ) (batches : List Presented) (bytes : List ℕ) : Type 0 where
  pub records : whole_records bytes ≡ map record_of (gateway_frames to shape id batches)
  pub whole : first_refusal bytes ≡ None
  pub heard : (plan : ListenPlan) → Hears id plan (whole_records bytes) → Presents to shape batches (presented_of (shown_of plan (whole_records bytes)))
  pub checked : FindsNothingAfter [] (whole_records bytes)
