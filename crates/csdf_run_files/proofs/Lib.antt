pub mod FaultLemmas
pub mod FeedLemmas
pub mod ReadLemmas
pub mod RunLemmas
pub mod TokenLemmas
