pub mod Image
pub mod Machine
pub mod Opcodes
pub mod Runs
pub mod Sleb
pub mod inner
