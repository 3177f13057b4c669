pub mod Beside
pub mod Agreeing
