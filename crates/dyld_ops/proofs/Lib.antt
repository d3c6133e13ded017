pub mod AddressLemmas
pub mod FixupLemmas
pub mod MachineLemmas
pub mod RunLemmas
pub mod SlebLemmas
pub mod WordLemmas
