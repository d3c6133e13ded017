pub mod Drawn
pub mod Fan
pub mod Rule
pub mod Share
pub mod inner
