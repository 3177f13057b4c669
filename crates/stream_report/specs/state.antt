-- Only private functions and proofs use these definitions.
pub mod Bits
pub mod Orders
