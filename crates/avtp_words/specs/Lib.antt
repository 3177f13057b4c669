pub mod Limits
pub mod Given
pub mod Grammar
pub mod state
