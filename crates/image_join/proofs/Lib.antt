pub mod HalfLemmas
pub mod JoinedLemmas
pub mod OneLemmas
pub mod SealLemmas
pub mod WritingLemmas
