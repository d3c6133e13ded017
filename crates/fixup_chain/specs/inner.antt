pub mod Fed
pub mod Held
pub mod InOrder
pub mod Near
pub mod Open
pub mod Rows
pub mod Turn
