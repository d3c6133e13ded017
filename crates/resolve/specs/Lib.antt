pub mod inner
pub mod Goals
pub mod Table
