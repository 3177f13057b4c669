-- Only private functions and proofs use these definitions.
pub mod Feeding
pub mod Gathering
pub mod Listening
pub mod Views
pub mod Known
