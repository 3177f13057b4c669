pub mod Packet
pub mod PacketStream
pub mod StampPattern
