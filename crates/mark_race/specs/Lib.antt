pub mod Marks
pub mod Ends
pub mod Level
pub mod Least
pub mod Rule
pub mod inner
