pub mod HeaderLemmas
