-- Only private functions and proofs use these definitions.
pub mod Counting
pub mod Hearing
pub mod Showing
pub mod Delivered
