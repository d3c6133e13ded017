pub mod Exits
pub mod Links
