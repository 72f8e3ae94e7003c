pub mod Files
pub mod GraphFiles
pub mod Places
pub mod Unread
