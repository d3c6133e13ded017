pub mod inner
pub mod Strings
