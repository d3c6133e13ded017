pub mod FieldLemmas
pub mod RelocationLemmas
pub mod StructureLemmas
