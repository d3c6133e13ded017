pub mod Around
pub mod Room
