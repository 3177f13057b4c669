pub mod Talk
pub mod state
