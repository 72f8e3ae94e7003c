pub mod Filter
pub mod Value
pub mod Light
pub mod Loop
