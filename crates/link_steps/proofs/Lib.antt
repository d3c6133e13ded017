pub mod AskLemmas
pub mod StepLemmas
