pub mod Adapters
pub mod Faults
pub mod Mode
pub mod Pieces
