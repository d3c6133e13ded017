pub mod GoalLemmas
pub mod PoolLemmas
pub mod MappedLemmas
pub mod PlaceLemmas
pub mod TargetLemmas
