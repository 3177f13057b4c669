pub mod CountLemmas
pub mod RateLemmas
pub mod RunLemmas
pub mod TimingLemmas
pub mod BeatLemmas
pub mod StampLemmas
pub mod HeaderLemmas
