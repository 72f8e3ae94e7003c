pub mod Acts
pub mod Contents
pub mod Places
pub mod SystemCalls
pub mod Terminals
pub mod TokenFiles
