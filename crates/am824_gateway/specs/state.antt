-- Only private functions and proofs use these definitions.
pub mod Cutting
pub mod Kept
pub mod Noting
pub mod Streams
pub mod Turning
