pub mod Reading
pub mod state
