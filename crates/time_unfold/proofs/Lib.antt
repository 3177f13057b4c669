pub mod Floors
pub mod Instants
pub mod OnLine
pub mod Found
