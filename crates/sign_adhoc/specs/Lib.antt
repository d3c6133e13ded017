pub mod Changed
pub mod Pages
pub mod Signature
pub mod Standing
pub mod Uuid
pub mod Written
pub mod inner
