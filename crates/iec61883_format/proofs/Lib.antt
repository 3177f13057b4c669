pub mod IecLemmas
