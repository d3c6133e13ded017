pub mod Contents
pub mod Groups
pub mod Literals
