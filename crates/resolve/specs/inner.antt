pub mod Pools
pub mod Scoped
