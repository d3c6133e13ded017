pub mod Adds
pub mod Last
pub mod Least
