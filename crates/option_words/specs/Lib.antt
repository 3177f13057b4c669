pub mod Word
pub mod Number
pub mod Operands
pub mod Options
pub mod Tables
pub mod Values
pub mod Lines
pub mod state
