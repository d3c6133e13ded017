pub mod Entry
pub mod Means
pub mod References
pub mod Unwinding
