pub mod Hash
pub mod Index
pub mod Offered
pub mod Order
pub mod Tables
