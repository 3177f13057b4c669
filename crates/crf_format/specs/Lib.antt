pub mod Crf
