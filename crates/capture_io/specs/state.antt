-- Only private functions and proofs use these definitions.
pub mod Contents
pub mod Pieces
pub mod Reader
pub mod Source
pub mod Writing
