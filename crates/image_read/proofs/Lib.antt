pub mod AlikeLemmas
pub mod ChainLemmas
pub mod CommandLemmas
pub mod ExampleLemmas
pub mod FixupLemmas
pub mod MeaningLemmas
pub mod PlainLemmas
pub mod WindowLemmas
