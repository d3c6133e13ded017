pub mod Entries
pub mod Leaves
