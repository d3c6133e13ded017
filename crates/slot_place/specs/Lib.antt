pub mod Places
pub mod Stubs
