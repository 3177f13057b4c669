-- Only private functions and proofs use these definitions.
pub mod AafLines
pub mod Lines
pub mod Moves
pub mod Overwrites
pub mod Pairs
pub mod SampleLines
