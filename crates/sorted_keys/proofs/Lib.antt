pub mod Comparing
pub mod BlockLemmas
