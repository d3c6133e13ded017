pub mod Fronts
pub mod InOrder
pub mod Ordered
