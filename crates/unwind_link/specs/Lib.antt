pub mod Kept
pub mod Dwarf
pub mod Goals
pub mod Personalities
pub mod Rows
pub mod Twice
pub mod inner
