pub mod Cells
pub mod Chains
pub mod Inside
pub mod Pens
pub mod Pool
pub mod Rows
