pub mod Covered
pub mod Clocked
pub mod ClockedCapture
pub mod Examples
