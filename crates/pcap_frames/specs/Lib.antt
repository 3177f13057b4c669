pub mod Layout
pub mod Capture
pub mod Readers
pub mod Reading
pub mod Frame
pub mod Pieces
pub mod Parts
pub mod state
