pub mod Check
pub mod state
