pub mod FieldLemmas
pub mod BranchLemmas
pub mod PageLemmas
pub mod Low12Lemmas
