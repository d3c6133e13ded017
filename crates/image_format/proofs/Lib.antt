pub mod ChainedLemmas
pub mod ImportLemmas
pub mod PointerLemmas
pub mod UnwindLemmas
pub mod BigFieldLemmas
