pub mod inner
pub mod Nodes
pub mod Forms
pub mod Exports
pub mod Stubs
pub mod FaultText
