pub mod Journal
pub mod Frames
pub mod Faults
pub mod Talking
pub mod Turns
pub mod Lending
pub mod Examples
pub mod state
