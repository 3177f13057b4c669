pub mod Aaf
