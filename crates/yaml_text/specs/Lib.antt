pub mod Characters
pub mod Lines
pub mod Scalars
pub mod Flow
pub mod FaultText
pub mod inner
