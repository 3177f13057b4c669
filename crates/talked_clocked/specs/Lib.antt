pub mod Clocked
pub mod Examples
