pub mod Command
pub mod Dylib
pub mod Fields
pub mod Header
pub mod Linkedit
pub mod Relocation
pub mod Segment
pub mod Symbol
