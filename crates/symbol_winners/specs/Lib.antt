pub mod Duplicates
pub mod Found
pub mod SymbolTable
pub mod Laws
pub mod Places
pub mod Winners
pub mod inner
