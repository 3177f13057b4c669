pub mod TalkOutcomes
pub mod Talked
pub mod TalkRun
