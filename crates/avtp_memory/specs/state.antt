-- Only private functions and proofs use these definitions.
pub mod Asked
pub mod Calls
pub mod MemoryFiles
pub mod MemoryShelf
pub mod NamedFiles
pub mod OpenFile
pub mod QuietShelf
