pub mod Greatest
pub mod Walk
pub mod Meaning
pub mod Once
