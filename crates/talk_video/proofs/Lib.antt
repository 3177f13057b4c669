pub mod AccessLemmas
pub mod ListingLemmas
pub mod LongUnits
pub mod FaultLemmas
pub mod VideoLists
pub mod VideoParts
pub mod VideoRules
pub mod UnitLaws
