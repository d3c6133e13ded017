pub mod ExitLemmas
pub mod LinkLemmas
