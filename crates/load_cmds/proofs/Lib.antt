pub mod Appends
pub mod Documents
pub mod Lengths
pub mod SegmentLemmas
pub mod Sums
