pub mod AccessUnits
pub mod Fragments
pub mod Units
pub mod Video
pub mod Streams
pub mod state
