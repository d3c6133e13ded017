pub mod Whole
pub mod Arrangement
pub mod Places
pub mod Layout
pub mod inner
pub mod Moved
pub mod Shifts
pub mod Addresses
