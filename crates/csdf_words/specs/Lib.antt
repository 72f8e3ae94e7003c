pub mod CommandLine
pub mod Endings
pub mod HowLong
pub mod Rooms
pub mod Rows
pub mod Workers
