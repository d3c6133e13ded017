pub mod LoadLemmas
pub mod NumberLemmas
pub mod ReachLemmas
pub mod SectionLemmas
pub mod StubLemmas
