-- Only private functions and proofs use these definitions.
pub mod Assembly
pub mod Ranges
pub mod Reading
