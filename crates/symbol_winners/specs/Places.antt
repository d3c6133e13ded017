-- Where symbols stand: in an atom, at an offset from its start.
use Rattle.std.specs.Prelude.{ℕ, ◌-◌, Option, Some, None, if◌then◌else◌}
use Rattle.std.specs.Option.{option_and_then}
use Rattle.mo_types.specs.declared.key.TheConstants.{COMMON_SECTION}
use Rattle.mo_types.specs.declared.loaded.LoadedFile.{LoadedFile}
use Rattle.mo_types.specs.declared.object.Section.{Section}
use Rattle.mo_types.specs.declared.object.SymbolKind.{SymbolKind}
use Rattle.mo_types.specs.declared.object.SymbolKind.TheVariants.{Common, Defined}
use Rattle.mo_types.specs.Atoms.{cut_of}
use Rattle.mo_types.specs.RelocationRules.{section_numbered}
use Rattle.mo_types.specs.Whole.{is_dropped}
use Rattle.symbol_winners.specs.declared.places.Place.{Place}

-- an offset of the section of a number belongs to the atom with the greatest cut not above it
unfoldable pub place_at : LoadedFile → ℕ → Section → ℕ → Place
place_at file number section offset = record {
  atom = record { file = file.id; section = number; offset = cut_of file.object number section offset };
  offset = offset - cut_of file.object number section offset;
}

-- an address in the section of a number, unless the section isn't linked
unfoldable pub place_in : LoadedFile → ℕ → ℕ → Section → Option Place
place_in file number value section = if is_dropped section then None else Some (place_at file number section (value - section.address))

-- Where a file's symbol of an index stands. A common symbol makes an atom of its own, in the section of commons and
-- with the index as its offset; what isn't defined stands nowhere.
unfoldable pub place_of : LoadedFile → ℕ → SymbolKind → Option Place
place_of file index (Defined section value) = option_and_then (place_in file section value) (section_numbered file.object.sections section)
place_of file index (Common align size) = Some (record { atom = record { file = file.id; section = COMMON_SECTION; offset = index }; offset = 0 })
place_of file index _ = None
