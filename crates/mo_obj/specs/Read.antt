-- What holds of an object that was read.
use Rattle.std.specs.Prelude.{ℕ, ◌<◌, List, All, slice_index, IfErr}
use Rattle.mo_types.specs.Refs.{refs_of}
use Rattle.mo_types.specs.Whole.{IsWhole}
use Rattle.mo_types.specs.declared.key.FileId.{FileId}
use Rattle.mo_types.specs.declared.object.Object.{Object}
use Rattle.unwind_read.specs.Unwinds.{unwinds_of}

-- each element is a byte
abbrev pub AreBytes : List ℕ → Type 0
AreBytes bytes = (i : ℕ) → slice_index bytes i < 256

-- an object that is whole, whose sections' contents are bytes, and whose references and unwind entries can be read
pub record IsRead (object : Object) : Type 0 where
  pub whole : IsWhole object
  pub contents : All (λ section. AreBytes section.bytes) object.sections
  pub refs : (file : FileId) → IfErr (refs_of object file) (λ fault. ⊥)
  pub unwinds : (file : FileId) → IfErr (unwinds_of object file) (λ fault. ⊥)
