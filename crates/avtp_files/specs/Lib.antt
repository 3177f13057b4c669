pub mod Entries
pub mod FileShelf
pub mod Parts
pub mod ShelfCalls
pub mod SinkCalls
pub mod state
