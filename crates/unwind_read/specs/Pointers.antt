-- The relocations of an entry's fields (`mach-o/arm64/reloc.h`).
use Rattle.std.specs.Prelude.{ℕ, ◌+◌, ◌*◌, ◌%◌, ◌^◌, ◌≡◌, ◌<◌, ◌==◌, ◌&&◌, Bool, not, nat_lt, List, find, length, slice_index_or, Option, Some, None, is_none, if◌then◌else◌}
use Rattle.mo_format.specs.declared.reloc.TheConstants.{ARM64_RELOC_UNSIGNED}
use Rattle.mo_types.specs.declared.object.RawReloc.{RawReloc}
use Rattle.mo_types.specs.Rows.{when}
use Rattle.unwind_read.specs.declared.entry_rows.EntryRow.{EntryRow}
use Rattle.unwind_read.specs.declared.pointers.EntryRelocs.{EntryRelocs}
use Rattle.unwind_read.specs.EntryRows.{relocs_in}

-- the address of a field of 8 bytes; r_address is signed, and there is no field below the section
abbrev pub is_pointer : RawReloc → Bool
is_pointer reloc = reloc.kind == ARM64_RELOC_UNSIGNED && reloc.length == 3 && not reloc.pcrel && nat_lt reloc.address (2 ^ 31)

abbrev pub is_pointer_at : ℕ → RawReloc → Bool
is_pointer_at address reloc = is_pointer reloc && reloc.address == address

-- the first pointer at an address
abbrev pub pointer_at : List RawReloc → ℕ → Option RawReloc
pointer_at relocs address = find (is_pointer_at address) relocs

-- those of the entry with a number from 0: of its function, its personality, its lsda
unfoldable pub relocs_of : List RawReloc → ℕ → EntryRelocs
relocs_of relocs i = record {
  function = pointer_at relocs (32 * i);
  personality = pointer_at relocs (32 * i + 16);
  lsda = pointer_at relocs (32 * i + 24);
}

-- An entry's relocations with one more, which is a pointer: where its field has none yet. `None` where it has, or
-- where the relocation is of no field.
abbrev pub row_with : EntryRelocs → RawReloc → Option EntryRelocs
row_with row reloc =
    if reloc.address % 32 == 0 then when (is_none row.function) (record row { function = Some reloc })
    else if reloc.address % 32 == 16 then when (is_none row.personality) (record row { personality = Some reloc })
    else if reloc.address % 32 == 24 then when (is_none row.lsda) (record row { lsda = Some reloc })
    else None

-- each row has the relocations of its entry
pub record AreRows (relocs : List RawReloc) (rows : List EntryRow) : Type 0 where
  pub each : (i : ℕ) (d : EntryRow) → i < length rows → relocs_in i (slice_index_or rows i d) ≡ relocs_of relocs i
