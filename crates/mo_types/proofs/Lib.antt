pub mod Each
pub mod Fronts
pub mod Scanning
pub mod Goals
pub mod RefRowLemmas
pub mod KeyOrder
