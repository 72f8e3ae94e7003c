pub mod ApartLemmas
pub mod DiskLemmas
pub mod FaultLemmas
pub mod InputLemmas
