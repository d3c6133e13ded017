pub mod Working
pub mod Team
pub mod Rows
pub mod Numbers
pub mod Filling
