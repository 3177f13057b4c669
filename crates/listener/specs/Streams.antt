-- The packet of a stream in a record's bytes.
use Rattle.std.specs.Prelude.{ℕ, List}
use Rattle.avtp_header.specs.Header.{peeked_of}
use Rattle.packet_journal.specs.Deliveries.{packet_in}
use Rattle.listener.specs.declared.delivery.StreamPacket.{StreamPacket}

-- The subtype and the bytes of a stream's packet, without the packet's location in memory.
pub record PacketOfStream : Type 0 where
  pub subtype : ℕ
  pub bytes : List ℕ

-- the packet that a view shows, without the packet's location in memory
abbrev pub stream_packet_shape : StreamPacket → PacketOfStream
stream_packet_shape p = record { subtype = p.subtype; bytes = p.bytes.now }

-- the packet in a record's bytes, with its subtype
abbrev pub stream_packet : List ℕ → PacketOfStream
stream_packet bytes = record { subtype = (peeked_of (packet_in bytes)).subtype; bytes = packet_in bytes }
