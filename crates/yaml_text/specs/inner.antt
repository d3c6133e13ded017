pub mod Units
pub mod Tokens
