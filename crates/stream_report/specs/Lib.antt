pub mod Sequence
pub mod state
