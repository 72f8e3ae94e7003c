pub mod Crews
pub mod NoRun
pub mod Refused
pub mod Reports
pub mod Telling
pub mod Waiting
