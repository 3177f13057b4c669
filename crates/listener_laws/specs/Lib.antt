pub mod Fronts
pub mod Anywhere
pub mod Examples
pub mod Completed
