pub mod Asking
pub mod Linking
pub mod Naming
pub mod Offered
pub mod Paired
pub mod Racing
pub mod Working
