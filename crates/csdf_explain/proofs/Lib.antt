pub mod CircleLemmas
pub mod ExplainLemmas
pub mod TokenNoteLemmas
pub mod DistanceLemmas
pub mod WayLemmas
