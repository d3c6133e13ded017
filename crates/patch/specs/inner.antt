pub mod Found
pub mod Least
pub mod Writing
