pub mod Arrows
pub mod Reached
