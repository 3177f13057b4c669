pub mod Moves
pub mod Feeding
pub mod Rest
pub mod Lent
