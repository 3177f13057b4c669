-- Only private functions and proofs use these definitions.
pub mod Files
pub mod Run
pub mod Show
pub mod Soak
