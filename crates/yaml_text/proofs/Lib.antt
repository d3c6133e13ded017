pub mod LineLemmas
pub mod QuotedLemmas
pub mod PlainLemmas
pub mod FlowLemmas
