pub mod Instants
pub mod Sent
pub mod Skipped
pub mod Spread
pub mod Clean
