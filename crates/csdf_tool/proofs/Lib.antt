pub mod CauseLemmas
pub mod EndLemmas
pub mod ExplainingLemmas
pub mod InputExamples
pub mod UseLemmas
