mod ApartLemmas
pub mod BoundLemmas
pub mod CauseLemmas
pub mod Cuts
pub mod DuplicateLemmas
pub mod ExistLemmas
pub mod ImageLemmas
pub mod InsideLemmas
mod KeepingLemmas
pub mod KeptLemmas
pub mod Lists
pub mod LostLemmas
pub mod MadeLemmas
pub mod MissingLemmas
pub mod NameLemmas
pub mod NearLemmas
pub mod OneLemmas
mod RaceLemmas
pub mod Refs
pub mod UnmetLemmas
pub mod UnwindingLemmas
pub mod WinnerPlaces
