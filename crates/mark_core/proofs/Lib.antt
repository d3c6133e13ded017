pub mod KeyLemmas
pub mod SetLemmas
pub mod ArrowLemmas
pub mod ReachLemmas
pub mod KeptLemmas
pub mod LawLemmas
pub mod ExistLemmas
