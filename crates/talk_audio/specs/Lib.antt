pub mod Samples
pub mod Packets
pub mod Audio
pub mod Journal
pub mod Streams
pub mod state
