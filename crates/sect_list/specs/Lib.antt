pub mod OutSections
pub mod inner
