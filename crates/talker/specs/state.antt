-- Only private functions and proofs use these definitions.
pub mod Frames
pub mod Kept
pub mod Talking
pub mod Turns
