pub mod Carried
pub mod Ends
pub mod Explaining
