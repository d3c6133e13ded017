pub mod AskLemmas
pub mod PlaceLemmas
pub mod ThereLemmas
pub mod ToldLemmas
