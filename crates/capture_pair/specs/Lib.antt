pub mod Sources
pub mod Pairing
pub mod Feeding
pub mod state
