pub mod ChainedFixups
pub mod ChainedImport
pub mod ChainedPointer
pub mod Unwind
pub mod BigFields
pub mod Signature
