pub mod Needs
pub mod Unmet
pub mod inner
