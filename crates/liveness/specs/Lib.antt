pub mod Edges
pub mod Order
pub mod Roots
pub mod Undefined
pub mod inner
