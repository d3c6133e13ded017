pub mod Strings
pub mod Lookup
pub mod Trie
pub mod Held
pub mod Sizes
