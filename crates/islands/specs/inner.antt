pub mod Bounds
pub mod Cut
pub mod Ground
pub mod Held
pub mod Known
pub mod Ordered
pub mod Scaled
