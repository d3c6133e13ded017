pub mod Field
pub mod Branch
pub mod Page
pub mod Low12
