pub mod Gathered
pub mod Destinations
