pub mod Lookup
pub mod Table
pub mod Pages
pub mod Held
pub mod Law
