-- Only private functions and proofs use these definitions.
pub mod Gateway
pub mod Scanning
pub mod Turning
