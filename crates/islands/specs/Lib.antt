pub mod Text
pub mod Targets
pub mod Rows
pub mod Plan
pub mod Reach
pub mod inner
