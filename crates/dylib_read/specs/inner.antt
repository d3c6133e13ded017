pub mod TrieLinks
pub mod TrieExports
