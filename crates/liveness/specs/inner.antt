pub mod Away
pub mod Lost
pub mod Parted
pub mod Spots
pub mod Turned
