-- What a row of the table of relocations says.
use Rattle.std.specs.Prelude.{ℕ, ◌+◌, ◌≡◌, not, List, Option, Some, None}
use Rattle.mo_types.specs.Atoms.{cut_of}
use Rattle.mo_types.specs.declared.object.RawReloc.{RawReloc}
use Rattle.mo_types.specs.RelocationRules.{field_at, is_bad_field}
use Rattle.mo_types.specs.Rows.{first_before, kind_at, last_at, when}
use Rattle.reloc_read.specs.declared.linked_section.LinkedSection.{LinkedSection}
use Rattle.reloc_read.specs.declared.rows.RelocRow.{RelocRow}
use Rattle.reloc_read.specs.Fields.{IsSmall}

-- what the row that ends at a place says, where it has a field
pub record IsRow (relocs : List RawReloc) (at : ℕ) (row : RelocRow) : Type 0 where
  pub kind : kind_at relocs at ≡ Some row.kind
  pub field : field_at relocs at ≡ Some row.field
  pub first : first_before relocs at ≡ row.first
  pub last : last_at relocs at ≡ Some row.last
  pub small : IsSmall row.field

-- that, or no row with a field ends at the place
abbrev pub IsRead : List RawReloc → ℕ → Option RelocRow → Type 0
IsRead relocs at None = field_at relocs at ≡ None
IsRead relocs at (Some row) = IsRow relocs at row

-- the cut of the atom that holds the row's field, where the field lies where one may lie
abbrev pub field_cut : LinkedSection → ℕ → RelocRow → Option ℕ
field_cut linked at row =
    when (not (is_bad_field linked.cut.object.now (linked.index + 1) linked.section.now at row.kind row.field))
    (cut_of linked.cut.object.now (linked.index + 1) linked.section.now row.field.offset)
