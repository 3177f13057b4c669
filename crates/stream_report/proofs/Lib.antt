pub mod Bits
pub mod Numbers
pub mod Lost
pub mod Orders
