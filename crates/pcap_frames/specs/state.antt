-- Only private functions and proofs use these definitions.
pub mod Frame
pub mod Layout
pub mod Readers
pub mod Reading
