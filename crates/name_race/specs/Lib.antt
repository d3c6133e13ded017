pub mod Race
pub mod Rule
