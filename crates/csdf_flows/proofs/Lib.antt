pub mod FlowLemmas
pub mod StreamLemmas
