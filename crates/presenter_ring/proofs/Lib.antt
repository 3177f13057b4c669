pub mod FrontLemmas
pub mod PipeLemmas
