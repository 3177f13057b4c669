-- The stream that a packet belongs to, with the packet's sequence number and media clock restart bit.
use Rattle.std.specs.Prelude.{ℕ, Bool, false, Option, Some, None}
use Rattle.avtp_header.specs.declared.header.StreamHeader.{StreamHeader}
use Rattle.avtp_header.specs.Numbers.{aaf_subtype, crf_subtype, cvf_subtype, iec_subtype}
use Rattle.crf_format.specs.Crf.{Crf}
use Rattle.avtp_packet.specs.declared.packet_stream.PacketStream.{PacketStream}
use Rattle.avtp_packet.specs.Packet.{AnyPacket, OfAaf, OfCrf, OfH264, OfIec, OfOther}

-- the stream, sequence number and media clock restart bit of a packet with this subtype and stream header
abbrev pub header_stream : ℕ → StreamHeader → PacketStream
header_stream subtype header = record { subtype = subtype; id = header.stream_id; sv = header.sv; seq = header.seq; mr = header.mr }

-- the stream, sequence number and media clock restart bit of a clock reference packet
abbrev pub clock_stream : Crf → PacketStream
clock_stream v = record { subtype = crf_subtype; id = v.stream_id; sv = v.sv; seq = v.seq; mr = v.mr }

-- the stream, sequence number and media clock restart bit of a packet; `None` for an unsupported format
abbrev pub stream_of : AnyPacket → Option PacketStream
stream_of (OfIec v) = Some (header_stream iec_subtype v.header)
stream_of (OfAaf v) = Some (header_stream aaf_subtype v.header)
stream_of (OfH264 v) = Some (header_stream cvf_subtype v.header)
stream_of (OfCrf v) = Some (clock_stream v)
stream_of (OfOther subtype) = None

-- A reserved bit of the packet is set. For an unsupported format, reserved bits are not known, and the answer is
-- `false`.
abbrev pub has_reserved : AnyPacket → Bool
has_reserved (OfIec v) = v.reserved
has_reserved (OfAaf v) = v.reserved
has_reserved (OfH264 v) = v.reserved
has_reserved (OfCrf v) = v.reserved
has_reserved (OfOther subtype) = false
