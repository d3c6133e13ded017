pub mod AnswerLemmas
pub mod ChangedLemmas
pub mod GoodLemmas
pub mod PageLemmas
pub mod SizeLemmas
pub mod StandingLemmas
pub mod UuidLemmas
