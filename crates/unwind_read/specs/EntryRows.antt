-- The relocations of an entry's fields in a table: what each names, and its number.
use Rattle.std.specs.Prelude.{ℕ, ◌+◌, ◌*◌, ◌&&◌, Bool, false, true, Option, Some, None, if◌then◌else◌}
use Rattle.mo_format.specs.declared.reloc.TheConstants.{ARM64_RELOC_UNSIGNED}
use Rattle.mo_types.specs.declared.object.RawReloc.{RawReloc}
use Rattle.unwind_read.specs.declared.pointers.EntryRelocs.{EntryRelocs}
use Rattle.unwind_read.specs.declared.entry_rows.EntryRow.{EntryRow}
use Rattle.unwind_read.specs.declared.entry_rows.Named.{Named}
use Rattle.unwind_read.specs.declared.entry_rows.Named.TheVariants.{Nothing, BySection, BySymbol}

-- what a pointer names
abbrev pub named_of : RawReloc → Named
named_of reloc = if reloc.external then BySymbol else BySection

abbrev pub is_nothing : Named → Bool
is_nothing Nothing = true
is_nothing _ = false

-- the pointer at an address that names something by a number
abbrev pub pointer_with : ℕ → ℕ → Bool → RawReloc
pointer_with address number external =
    record { address = address; number = number; pcrel = false; length = 3; external = external; kind = ARM64_RELOC_UNSIGNED }

abbrev pub pointer_of : ℕ → ℕ → Named → Option RawReloc
pointer_of address number Nothing = None
pointer_of address number BySection = Some (pointer_with address number false)
pointer_of address number BySymbol = Some (pointer_with address number true)

-- the relocations of the entry with a number from 0, from its row
unfoldable pub relocs_in : ℕ → EntryRow → EntryRelocs
relocs_in i row = record {
  function = pointer_of (32 * i) row.function row.function_named;
  personality = pointer_of (32 * i + 16) row.personality row.personality_named;
  lsda = pointer_of (32 * i + 24) row.lsda row.lsda_named;
}

-- no field has one
abbrev pub is_empty : EntryRow → Bool
is_empty row = is_nothing row.function_named && is_nothing row.personality_named && is_nothing row.lsda_named
