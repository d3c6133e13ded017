pub mod inner
pub mod Opened
pub mod Opening
pub mod Sound
