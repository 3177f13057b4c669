-- An AVTP packet in the format that its subtype names (IEEE 1722-2016, table 6).
use Rattle.std.specs.Prelude.{ℕ, ◌==◌, ◌≤◌, ⊤, true, nat_lt, List, length, Option, Some, None, if◌then◌else◌}
use Rattle.avtp_base.specs.declared.field.Field.TheVariants.{Subtype}
use Rattle.avtp_base.specs.declared.refusal.Refusal.{Refusal}
use Rattle.avtp_base.specs.Octets.{bits}
use Rattle.avtp_base.specs.Rows.{or_else}
use Rattle.iec61883_format.specs.Iec.{Iec, iec_subtype, iec_refusal, iec_of, iec_shape}
use Rattle.aaf_format.specs.Aaf.{Aaf, aaf_subtype, aaf_refusal, aaf_of, aaf_shape}
use Rattle.cvf_format.specs.Cvf.{Cvf, cvf_subtype, cvf_refusal, cvf_of, cvf_shape}
use Rattle.crf_format.specs.Crf.{Crf, crf_subtype, crf_refusal, crf_of, crf_shape}
use Rattle.avtp_packet.specs.declared.packet.Packet.{Packet as PacketView}
use Rattle.avtp_packet.specs.declared.packet.Packet.TheVariants as view

-- a packet of a supported format, or only the subtype of a packet of another format
pub data AnyPacket : Type 0 where
  OfIec : Iec → AnyPacket
  OfAaf : Aaf → AnyPacket
  OfH264 : Cvf → AnyPacket
  OfCrf : Crf → AnyPacket
  OfOther : ℕ → AnyPacket

-- the packet that a view shows, with plain bytes instead of its borrowed payload
abbrev pub packet_shape : PacketView → AnyPacket
packet_shape (view.Iec v) = OfIec (iec_shape v)
packet_shape (view.Aaf v) = OfAaf (aaf_shape v)
packet_shape (view.H264 v) = OfH264 (cvf_shape v)
packet_shape (view.Crf v) = OfCrf (crf_shape v)
packet_shape (view.Other subtype) = OfOther subtype

-- ---- packets, given their subtype

-- the packet that the bytes `pdu` spell, given their subtype
unfoldable pub kind_of : ℕ → List ℕ → AnyPacket
kind_of subtype pdu =
    if subtype == iec_subtype then OfIec (iec_of pdu) else
    if subtype == aaf_subtype then OfAaf (aaf_of pdu) else
    if subtype == cvf_subtype then OfH264 (cvf_of pdu) else
    if subtype == crf_subtype then OfCrf (crf_of pdu) else
    OfOther subtype

-- why the bytes `pdu` are not a packet of this subtype; `None` for an unsupported format
unfoldable pub kind_refusal : ℕ → List ℕ → Option Refusal
kind_refusal subtype pdu =
    if subtype == iec_subtype then iec_refusal pdu else
    if subtype == aaf_subtype then aaf_refusal pdu else
    if subtype == cvf_subtype then cvf_refusal pdu else
    if subtype == crf_subtype then crf_refusal pdu else
    None

-- ---- packets, given their bytes alone

-- the refusal of an empty packet, which has no subtype
abbrev pub subtype_refusal : List ℕ → Option Refusal
subtype_refusal pdu = if nat_lt (length pdu) 1 then Some (record { field = Subtype; at = 0; short = true }) else None

-- the packet that the bytes `pdu` spell, with the subtype in their first byte
abbrev pub packet_of : List ℕ → AnyPacket
packet_of pdu = kind_of (bits 0 0 8 pdu) pdu

-- why the bytes `pdu` are not a packet: they are empty, or the format of their subtype refuses them
abbrev pub packet_refusal : List ℕ → Option Refusal
packet_refusal pdu = or_else (subtype_refusal pdu) (kind_refusal (bits 0 0 8 pdu) pdu)

-- a clock reference packet has at least one timestamp; for other packets there is no condition
abbrev pub HasPoint : PacketView → Type 0
HasPoint (view.Crf v) = 8 ≤ length v.payload.now
HasPoint packet = ⊤
