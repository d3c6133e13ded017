pub mod Commons
pub mod Filled
pub mod Kept
pub mod Laid
pub mod Laying
pub mod PartsReady
pub mod Unfit
