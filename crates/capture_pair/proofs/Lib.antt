pub mod Joined
pub mod Handing
pub mod Filling
pub mod Heard
pub mod Taking
pub mod Stays
pub mod Fed
