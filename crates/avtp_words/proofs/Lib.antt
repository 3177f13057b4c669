pub mod CommandLines
pub mod Rules
pub mod Clocks
pub mod Devices
pub mod Lacking
pub mod Commands
pub mod Rates
