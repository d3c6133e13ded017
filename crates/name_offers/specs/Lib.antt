pub mod Offers
pub mod inner
