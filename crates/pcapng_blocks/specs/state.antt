-- Only private functions and proofs use these definitions.
pub mod Fields
pub mod Needs
