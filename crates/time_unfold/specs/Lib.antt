pub mod Time
pub mod Lines
pub mod Heads
pub mod Stamps
pub mod Limits
pub mod Anchors
pub mod state
