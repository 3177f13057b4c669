pub mod Merged
pub mod Pairs
pub mod Ways
pub mod Differences
pub mod Laws
pub mod Matching
pub mod state
