-- Which packets of a stream must have a timestamp. The rule for sparse PCM comes from IEEE 1722-2016, 7. The rules for
-- dense PCM, AM824 and H.264 are this project's own.
use Rattle.std.specs.Prelude.{ℕ, ◌%◌, ◌==◌, Bool, true, false, not, ◌&&◌, nat_lt, Option, Some, None, if◌then◌else◌}
use Rattle.std.specs.Bool.{beq}
use Rattle.aaf_format.specs.Aaf.{Aaf}
use Rattle.cvf_format.specs.declared.cvf.NalPart.{NalPart}
use Rattle.cvf_format.specs.declared.cvf.NalPart.TheVariants.{Single, First, Middle, Last}
use Rattle.cvf_format.specs.Cvf.{Cvf}
use Rattle.iec61883_format.specs.Iec.{Iec, anchor_index, syt_interval}
use Rattle.avtp_packet.specs.Packet.{AnyPacket, OfAaf, OfCrf, OfH264, OfIec, OfOther}

-- A packet with `count` samples has a timestamp that it must not have, or lacks one that it must have. A packet without
-- samples may have a timestamp or not.
abbrev pub is_off : ℕ → Bool → Bool → Bool
is_off count stamped must = nat_lt 0 count && not (beq stamped must)

-- the PCM packet must have a timestamp: its stream is not sparse, or its sequence number is a multiple of 8
abbrev pub must_stamp_aaf : Aaf → Bool
must_stamp_aaf v = if v.sparse then v.header.seq % 8 == 0 else true

-- a PCM packet has a timestamp that it must not have, or lacks one that it must have
abbrev pub aaf_is_off : Aaf → Bool
aaf_is_off v = is_off v.count v.header.tv (must_stamp_aaf v)

-- An AM824 packet with this SYT_INTERVAL has a timestamp that it must not have, or lacks one that it must have. A
-- packet with data blocks must have a timestamp if the block count of one of them is a multiple of SYT_INTERVAL;
-- otherwise it must have none. A no-data packet has no SYT_INTERVAL, so there is no rule for it. A packet without data
-- blocks may have a timestamp or not.
abbrev pub iec_is_off_by : Option ℕ → Iec → Bool
iec_is_off_by None v = false
iec_is_off_by (Some interval) v = is_off v.count v.header.tv (nat_lt (anchor_index v.cip.dbc interval) v.count)

-- an AM824 packet has a timestamp that it must not have, or lacks one that it must have
abbrev pub iec_is_off : Iec → Bool
iec_is_off v = iec_is_off_by (syt_interval v.cip.fdf) v

-- a packet that carries this part of a NAL unit ends the unit
abbrev pub ends_unit : NalPart → Bool
ends_unit Single = true
ends_unit First = false
ends_unit Middle = false
ends_unit Last = true

-- The H.264 packet ends a NAL unit, but lacks a timestamp. Any other H.264 packet may have a timestamp or not.
abbrev pub h264_is_off : Cvf → Bool
h264_is_off v = ends_unit v.part && not v.header.tv

-- The packet has a timestamp that it must not have, or lacks one that it must have. There is no rule for clock
-- reference packets and unsupported formats.
abbrev pub stamp_is_off : AnyPacket → Bool
stamp_is_off (OfIec v) = iec_is_off v
stamp_is_off (OfAaf v) = aaf_is_off v
stamp_is_off (OfH264 v) = h264_is_off v
stamp_is_off (OfCrf v) = false
stamp_is_off (OfOther subtype) = false
