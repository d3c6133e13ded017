-- Where symbols at the starts of atoms stand.
use Rattle.std.specs.Prelude.{ℕ, ◌≡◌, ◌<◌, List, length, Some}
use Rattle.std.specs.List.{HoldsAt}
use Rattle.mo_types.specs.declared.atom.Atom.{Atom}
use Rattle.mo_types.specs.declared.loaded.LoadedFile.{LoadedFile}
use Rattle.mo_types.specs.declared.object.SymbolKind.TheVariants.{Defined}
use Rattle.symbol_winners.specs.Places.{place_of}
use Rattle.symbol_winners.specs.declared.places.Place.{Place}

-- the atom at a place begins at an offset of the section of a number
pub record Begins (atoms : List Atom) (number offset at : ℕ) : Type 0 where
  pub within : at < length atoms
  pub section : HoldsAt (λ (atom : Atom). atom.key.section ≡ number) atoms at
  pub start : HoldsAt (λ (atom : Atom). atom.key.offset ≡ offset) atoms at

-- a place is that of a definition in the section of a number, at an address
abbrev pub IsPlaceOf : LoadedFile → ℕ → ℕ → Place → Type 0
IsPlaceOf file number value place = (index : ℕ) → place_of file index (Defined number value) ≡ Some place
