pub mod CollectedLemmas
pub mod EachLemmas
pub mod FileLemmas
pub mod GatherLemmas
pub mod PlaceLemmas
pub mod ReadLemmas
pub mod SearchLemmas
