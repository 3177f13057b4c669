pub mod AgreeRun
pub mod SideBySide
pub mod TwoFiles
