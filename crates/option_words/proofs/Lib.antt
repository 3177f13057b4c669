pub mod Numbers
pub mod Operands
pub mod Settings
pub mod Steps
pub mod Lines
