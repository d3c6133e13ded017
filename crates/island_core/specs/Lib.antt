pub mod Far
pub mod Groups
pub mod inner
