pub mod Field
pub mod Order
pub mod Patched
pub mod Range
pub mod Reading
pub mod inner
