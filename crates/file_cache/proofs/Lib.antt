pub mod OneLemmas
pub mod RunLemmas
