pub mod ClockLemmas
pub mod ClockPoints
pub mod ClockRules
pub mod ClockPackets
