pub mod Record
pub mod Show
pub mod Soak
pub mod DeviceWords
pub mod Run
pub mod HasRun
pub mod state
