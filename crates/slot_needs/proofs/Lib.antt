pub mod FileLemmas
pub mod GatheringLemmas
pub mod SlotLemmas
pub mod UnmetLemmas
pub mod WalkLemmas
