pub mod TurnLemmas
pub mod SessionLemmas
pub mod AnswerLemmas
pub mod DotLemmas
pub mod ToldLemmas
pub mod ObjectLemmas
