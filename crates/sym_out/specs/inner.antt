pub mod Numbers
pub mod Ranged
pub mod Standing
pub mod Tables
pub mod Written
