pub mod Listen
pub mod state
