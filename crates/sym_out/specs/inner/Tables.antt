-- Tables that have a value for each atom that is placed, in the order of these.
use Rattle.std.specs.Prelude.{ℕ, ◌≡◌, ◌<◌, List, length, slice_index_or, Option}
use Rattle.std.specs.Borrow.{Bor}
use Rattle.std.specs.List.Sorted.{IsSorted}
use Rattle.std.specs.Option.{option_map, option_or}
use Rattle.std.specs.Ordering.{on}
use Rattle.mo_types.specs.Keys.{compare_keys}
use Rattle.mo_types.specs.declared.key.AtomKey.{AtomKey}
use Rattle.mo_types.specs.declared.object.Symbol.{Symbol}
use Rattle.sect_place.specs.Addresses.{AreOnce}
use Rattle.sect_place.specs.declared.layout.Placed.{Placed}
use Rattle.sym_out.specs.Files.{FileSymbol}
use Rattle.sym_out.specs.Map.{first_name}

abbrev pub atom_of : Placed → AtomKey
atom_of p = p.atom

-- in the order of their atoms, each once
pub record AreInOrder (placed : List Placed) : Type 0 where
  pub sorted : IsSorted (on atom_of compare_keys) placed
  pub once : AreOnce placed

-- each value, seen in some way, is that of its atom
pub record IsTableOf {Y Z : Type 0} (view : Y → Z) (value : AtomKey → Z) (placed : List Placed) (table : List Y) : Type 0 where
  pub size : length table ≡ length placed
  pub each : (at : ℕ) (y : Y) (p : Placed) → at < length placed → view (slice_index_or table at y) ≡ value (slice_index_or placed at p).atom

-- the name that a symbol has
abbrev pub name_held : Option (Bor Symbol) → Option (List ℕ)
name_held symbol = option_map (λ s. s.now.name) symbol

-- names of atoms
abbrev pub AreNames : (AtomKey → Option (List ℕ)) → List Placed → List (Option (Bor Symbol)) → Type 0
AreNames name placed names = IsTableOf name_held name placed names

-- an atom's name, or where it has none the first one among symbols
unfoldable pub filled : (AtomKey → Option (List ℕ)) → List FileSymbol → AtomKey → Option (List ℕ)
filled name symbols key = option_or (name key) (first_name symbols key)
