pub mod Entries
pub mod Files
pub mod Laws
pub mod Map
pub mod Sites
pub mod Sizes
pub mod Symbols
pub mod inner
