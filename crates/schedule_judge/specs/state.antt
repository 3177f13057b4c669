-- Only private functions and proofs use these definitions.
pub mod Judge
pub mod Order
pub mod Waiting
