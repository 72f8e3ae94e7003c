pub mod Asked
pub mod Causes
pub mod Hand
pub mod Heavy
pub mod Looking
pub mod Workers
