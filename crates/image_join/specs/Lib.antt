pub mod Joined
pub mod Sealed
pub mod inner
