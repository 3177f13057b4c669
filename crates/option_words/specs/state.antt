-- Only private functions and proofs use these definitions.
pub mod Number
pub mod Operands
pub mod Steps
pub mod Answers
