-- Only private functions and proofs use these definitions.
pub mod Sides
pub mod Taking
pub mod Fed
