pub mod JudgeSound
pub mod JudgeLemmas
pub mod GivenLemmas
pub mod Keys
