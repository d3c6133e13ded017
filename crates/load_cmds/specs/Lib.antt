pub mod Commands
pub mod Documents
pub mod Names
pub mod Others
pub mod Segments
pub mod Sizes
pub mod inner
