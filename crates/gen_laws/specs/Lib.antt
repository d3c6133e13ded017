pub mod Input
pub mod Object
