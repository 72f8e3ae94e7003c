pub mod MakeLemmas
pub mod PutLemmas
