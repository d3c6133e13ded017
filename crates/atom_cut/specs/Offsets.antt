-- The offsets at which symbols cut the sections of an object.
use Rattle.std.specs.Prelude.{ℕ, ◌+◌, ◌-◌, ◌<◌, ◌≡◌, ◌==◌, ◌&&◌, nat_lt, List, [], length, slice_index_or, Option, Some, None, IfSome, if◌then◌else◌}
use Rattle.std.specs.List.{filter_map}
use Rattle.mo_types.specs.declared.object.Section.{Section}
use Rattle.mo_types.specs.declared.object.Symbol.{Symbol}
use Rattle.mo_types.specs.declared.object.SymbolKind.{SymbolKind}
use Rattle.mo_types.specs.declared.object.SymbolKind.TheVariants.{Defined}
use Rattle.mo_types.specs.Atoms.{may_cut}
use Rattle.atom_cut.specs.declared.offsets.CutPlace.{CutPlace}

-- the offset of a definition in the section of a number, before its end
abbrev pub offset_in : ℕ → Section → SymbolKind → Option ℕ
offset_in number section (Defined place value) =
    if place == number && nat_lt (value - section.address) section.size then Some (value - section.address) else None
offset_in number section _ = None

-- the offset at which a symbol cuts the section of a number
abbrev pub cut_offset : ℕ → Section → Symbol → Option ℕ
cut_offset number section symbol = if may_cut symbol then offset_in number section symbol.kind else None

-- a symbol's offset in the section of an index, by the place where it cuts
abbrev pub offset_at : ℕ → Option CutPlace → Option ℕ
offset_at n None = None
offset_at n (Some place) = if place.section == n then Some place.offset else None

-- the one place, if any, where a symbol cuts
pub record IsCutPlace (sections : List Section) (symbol : Symbol) (place : Option CutPlace) : Type 0 where
  pub within : IfSome place (λ p. p.section < length sections)
  pub each : (n : ℕ) (d : Section) → n < length sections → cut_offset (n + 1) (slice_index_or sections n d) symbol ≡ offset_at n place

-- the offsets at which symbols cut the section of a number, in the order of the symbols
unfoldable pub offsets_in : List Symbol → ℕ → Section → List ℕ
offsets_in symbols number section = filter_map (cut_offset number section) symbols

-- the lists of offsets of all sections, which are numbered from 1
pub record AreOffsets (sections : List Section) (symbols : List Symbol) (offsets : List (List ℕ)) : Type 0 where
  pub count : length offsets ≡ length sections
  pub each : (n : ℕ) (d : Section) → n < length sections → slice_index_or offsets n [] ≡ offsets_in symbols (n + 1) (slice_index_or sections n d)
