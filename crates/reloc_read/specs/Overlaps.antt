-- What tells which fields of rows overlap.
use Rattle.std.specs.Prelude.{ℕ, ◌+◌, List, length, map}
use Rattle.std.specs.List.{filter_map, range_with_len}
use Rattle.std.specs.List.Sorted.{IsNonDecreasing, IsNonDecreasingBy, IsPermutation}
use Rattle.mo_types.specs.declared.object.RawReloc.{RawReloc}
use Rattle.mo_types.specs.declared.reference.FieldRange.{FieldRange}
use Rattle.mo_types.specs.RelocationRules.{field_at}
use Rattle.reloc_read.specs.declared.overlaps.Overlaps.{Overlaps}
use Rattle.reloc_read.specs.declared.overlaps.Overlaps.TheVariants.{Nowhere, Somewhere}
use Rattle.reloc_read.specs.Fields.{AreApart}

-- where a field ends
abbrev pub end_of : FieldRange → ℕ
end_of field = field.offset + field.size

-- the fields of all rows
abbrev pub fields_of : List RawReloc → List FieldRange
fields_of relocs = filter_map (field_at relocs) (range_with_len 0 (length relocs))

-- the fields that were found, by rising offset
pub record AreSorted (found fields : List FieldRange) : Type 0 where
  pub moved : IsPermutation found fields
  pub rise : IsNonDecreasingBy (λ field. field.offset) fields

-- the fields of all rows by rising offset, and where they end, in rising order
pub record AreBounds (relocs : List RawReloc) (fields : List FieldRange) (ends : List ℕ) : Type 0 where
  pub sorted : AreSorted (fields_of relocs) fields
  pub moved : IsPermutation (map end_of fields) ends
  pub rise : IsNonDecreasing ends

abbrev pub Tells : List RawReloc → Overlaps → Type 0
Tells relocs Nowhere = AreApart relocs
Tells relocs (Somewhere fields ends) = AreBounds relocs fields.items ends.items
