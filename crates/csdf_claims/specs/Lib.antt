pub mod Board
pub mod Steps
pub mod Face
pub mod Laws
