pub mod SearchLemmas
pub mod TableLemmas
