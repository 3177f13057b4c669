pub mod Spreads
pub mod state
