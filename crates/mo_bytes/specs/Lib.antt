pub mod Number
pub mod Rounding
pub mod Uleb
