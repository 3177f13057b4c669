pub mod Pulls
pub mod Fronts
pub mod Pipes
pub mod state
