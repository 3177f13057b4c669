-- Only private functions and proofs use these definitions.
pub mod Check
