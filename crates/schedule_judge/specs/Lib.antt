pub mod Judge
pub mod Waiting
pub mod state
