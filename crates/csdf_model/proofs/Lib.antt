pub mod LinkLemmas
pub mod NameLemmas
pub mod CopyLemmas
pub mod CapacityLemmas
pub mod PortLemmas
pub mod RateLemmas
pub mod HoldingLemmas
