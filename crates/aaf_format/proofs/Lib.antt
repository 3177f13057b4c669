pub mod AafLemmas
