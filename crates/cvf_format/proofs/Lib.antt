pub mod AnnexBLemmas
pub mod AssemblyLemmas
pub mod CvfLemmas
mod NalLemmas
mod NextUnit
pub mod PlaceLemmas
pub mod RuleLemmas
pub mod SettledLemmas
pub mod StretchLemmas
mod UnitLemmas
