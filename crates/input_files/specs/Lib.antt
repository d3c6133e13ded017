pub mod Collected
pub mod Files
pub mod Inputs
pub mod Sources
pub mod inner
