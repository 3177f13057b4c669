pub mod Shown
pub mod Hearing
