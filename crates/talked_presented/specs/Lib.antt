pub mod Whole
pub mod Anywhere
pub mod Examples
