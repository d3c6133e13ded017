pub mod Members
pub mod Inserted
pub mod Places
pub mod Rising
pub mod Ties
