mod Sorting
mod Arrivals
pub mod SoakLemmas
pub mod CountLemmas
pub mod HearingLemmas
pub mod RoundLemmas
pub mod DeliveryLemmas
pub mod StreamSizes
pub mod Taken
pub mod CaptureLemmas
pub mod OutcomeLemmas
pub mod ItemLemmas
pub mod HeardLemmas
