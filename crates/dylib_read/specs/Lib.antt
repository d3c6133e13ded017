pub mod inner
pub mod FaultText
pub mod Faults
pub mod Commands
pub mod Head
pub mod TrieNodes
pub mod Trie
pub mod Dylib
