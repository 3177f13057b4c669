pub mod Words
pub mod Listened
pub mod Talked
pub mod Sizes
