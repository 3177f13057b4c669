pub mod Iec
pub mod state
