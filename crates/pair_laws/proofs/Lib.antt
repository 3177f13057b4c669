pub mod Beside
pub mod Paces
pub mod Agreeing
pub mod Known
pub mod Told
pub mod Found
