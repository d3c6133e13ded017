pub mod Multiples
pub mod Numbers
pub mod Ulebs
