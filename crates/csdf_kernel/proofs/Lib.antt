pub mod PlaceLemmas
pub mod NumberLemmas
pub mod ValueLemmas
pub mod Examples
pub mod LoopLemmas
pub mod LightLemmas
