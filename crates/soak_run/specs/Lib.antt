pub mod Generator
pub mod Network
pub mod Captured
pub mod Outcomes
pub mod state
