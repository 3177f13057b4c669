pub mod HeaderLemmas
pub mod SampleLemmas
pub mod DueLemmas
pub mod FormatLemmas
pub mod PcmLemmas
pub mod Am824Lemmas
pub mod ClockStamps
