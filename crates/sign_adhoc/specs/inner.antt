pub mod Renewed
pub mod Told
