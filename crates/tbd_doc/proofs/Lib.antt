pub mod WalkLemmas
pub mod SearchLemmas
pub mod LoopLemmas
pub mod NameLemmas
pub mod OrderLemmas
pub mod StubLemmas
