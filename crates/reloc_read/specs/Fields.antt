-- Fields of references.
use Rattle.std.specs.Prelude.{ℕ, ◌+◌, ◌^◌, ◌≡◌, ◌≤◌, ◌<◌, ◌==◌, ◌&&◌, Bool, false, not, List, length, slice_index_or, Some}
use Rattle.std.specs.Option.{option_map_or}
use Rattle.mo_types.specs.declared.object.RawReloc.{RawReloc}
use Rattle.mo_types.specs.declared.reference.FieldRange.{FieldRange}
use Rattle.mo_types.specs.RelocationRules.{field_at, overlap, overlaps_another}

-- a field of 4 to 8 bytes at an offset of 32 bits
pub record IsSmall (field : FieldRange) : Type 0 where
  pub offset : field.offset < 2 ^ 32
  pub low : 4 ≤ field.size
  pub high : field.size ≤ 8

-- the field of the row at another place overlaps this one
abbrev pub overlaps_at : List RawReloc → ℕ → FieldRange → ℕ → Bool
overlaps_at relocs at field other = not (other == at) && option_map_or (overlap field) (field_at relocs other) false

-- no field of a row overlaps that of another one
pub record AreApart (relocs : List RawReloc) : Type 0 where
  pub apart : (at : ℕ) (field : FieldRange) → at < length relocs → field_at relocs at ≡ Some field → overlaps_another relocs at field ≡ false

-- the fields of the rows before a place stand apart, and end by a bound
pub record AreBelow (relocs : List RawReloc) (count bound : ℕ) : Type 0 where
  pub each : (k : ℕ) (field : FieldRange) → k < count → field_at relocs k ≡ Some field → field.offset + field.size ≤ bound
  pub apart : (i j : ℕ) (a b : FieldRange) → i < j → j < count → field_at relocs i ≡ Some a → field_at relocs j ≡ Some b → overlap a b ≡ false

-- they stand apart, and begin at a bound or after it
pub record AreAbove (relocs : List RawReloc) (count bound : ℕ) : Type 0 where
  pub each : (k : ℕ) (field : FieldRange) → k < count → field_at relocs k ≡ Some field → bound ≤ field.offset
  pub apart : (i j : ℕ) (a b : FieldRange) → i < j → j < count → field_at relocs i ≡ Some a → field_at relocs j ≡ Some b → overlap a b ≡ false

-- each field but the last one ends before the next
pub record Follow (fields : List FieldRange) : Type 0 where
  pub next : (k : ℕ) (d : FieldRange) → k + 1 < length fields → (slice_index_or fields k d).offset + (slice_index_or fields k d).size ≤ (slice_index_or fields (k + 1) d).offset
