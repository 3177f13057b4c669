-- Only private functions and proofs use these definitions.
pub mod Agree
pub mod Comparing
