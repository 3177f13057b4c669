pub mod Fronts
pub mod Taken
pub mod Anywhere
pub mod Carried
pub mod Swapped
pub mod Completed
pub mod Shorter
pub mod UnitsAnywhere
