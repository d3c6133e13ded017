pub mod Halves
pub mod Writing
