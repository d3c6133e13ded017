pub mod Growth
pub mod inner
pub mod Rounds
