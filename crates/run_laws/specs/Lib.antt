pub mod Defaults
pub mod Runs
