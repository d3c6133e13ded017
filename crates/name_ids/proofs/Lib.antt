pub mod Any
pub mod Gathering
pub mod Numbers
pub mod Once
pub mod Staying
