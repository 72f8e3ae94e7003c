pub mod CrewLemmas
pub mod ReportLemmas
