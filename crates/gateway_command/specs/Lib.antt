pub mod Gateway
pub mod state
