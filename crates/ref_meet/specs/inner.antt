pub mod Orders
pub mod Told
pub mod Bound
pub mod Listed
pub mod Met
pub mod Rows
pub mod Words
pub mod Apart
