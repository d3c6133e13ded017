pub mod Blocks
pub mod File
pub mod Tree
pub mod Grammar
