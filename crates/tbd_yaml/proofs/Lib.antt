pub mod BlockLemmas
pub mod ReadLemmas
pub mod TreeLemmas
pub mod SoundLemmas
pub mod GrammarLemmas
pub mod ConverseLemmas
