pub mod Interface
pub mod Fields
pub mod Blocks
pub mod Packets
pub mod Section
pub mod state
