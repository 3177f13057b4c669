pub mod Headline
pub mod HeardTo
pub mod Passing
