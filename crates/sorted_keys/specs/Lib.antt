pub mod Keys
pub mod state
