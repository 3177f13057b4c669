pub mod Deliveries
pub mod Packets
pub mod Units
pub mod Delivered
pub mod Laws
pub mod Carried
pub mod Examples
pub mod InUnits
