pub mod Lists
pub mod Steps
pub mod Names
pub mod Commons
pub mod Entries
pub mod Ordinals
