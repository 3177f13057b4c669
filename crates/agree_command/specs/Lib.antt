pub mod Agree
pub mod state
