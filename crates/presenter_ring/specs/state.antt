-- Only private functions and proofs use these definitions.
pub mod Backs
pub mod Fronts
pub mod Pipes
pub mod Pulls
pub mod Presented
