pub mod Causes
pub mod Requests
pub mod Scripts
pub mod Streaming
pub mod Texts
pub mod Tokens
pub mod Totals
