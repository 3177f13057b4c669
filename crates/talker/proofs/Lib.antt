pub mod FrameLemmas
pub mod StreamLemmas
pub mod AudioLemmas
pub mod VideoLemmas
pub mod TalkLemmas
pub mod TurnLemmas
pub mod SourceLemmas
pub mod LawLemmas
