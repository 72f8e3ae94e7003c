pub mod AddressLemmas
pub mod CommandExamples
pub mod CommandLemmas
pub mod ProgramLemmas
