pub mod CheckedTo
