pub mod Checked
pub mod CutObject
pub mod Faults
pub mod Features
pub mod Fields
pub mod LinkedSection
pub mod Overlaps
pub mod RelocRow
