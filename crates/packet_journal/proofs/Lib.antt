pub mod Copies
pub mod Carried
pub mod Silent
pub mod Blocks
pub mod InUnits
