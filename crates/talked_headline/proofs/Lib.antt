pub mod Talked
pub mod Fragments
