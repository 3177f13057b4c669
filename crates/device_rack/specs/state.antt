-- Only private functions and proofs use these definitions.
pub mod MemoryDevice
pub mod Written
pub mod Outlets
pub mod Racks
