-- Only private functions and proofs use these definitions.
pub mod Answers
pub mod Operands
pub mod Reading
