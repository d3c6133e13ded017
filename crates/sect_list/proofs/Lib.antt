pub mod Buckets
pub mod Homes
pub mod Gathering
pub mod Ordering
pub mod Low
pub mod Listed
pub mod Once
