pub mod Circle
pub mod Distances
pub mod Explained
pub mod Stalled
pub mod TokenNotes
pub mod Ways
