pub mod Images
pub mod LinkOf
pub mod Plans
pub mod Tellings
pub mod Unwinding
