pub mod Checked
pub mod Closed
pub mod Filling
pub mod Growing
pub mod Held
pub mod Index
pub mod Key
