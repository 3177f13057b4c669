-- Only private functions and proofs use these definitions.
pub mod Bounds
pub mod Numbers
pub mod Search
pub mod Window
