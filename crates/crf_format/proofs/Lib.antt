pub mod CrfLemmas
