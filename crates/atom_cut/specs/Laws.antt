-- What holds of the atoms of an object.
use Rattle.std.specs.Prelude.{ℕ, ◌+◌, ◌≡◌, ◌≤◌, ◌<◌, ◌⊎◌, Bool, true, false, List, [], ◌∷◌, length, Some, if◌then◌else◌}
use Rattle.mo_types.specs.AtomBytes.{atom_bytes}
use Rattle.mo_types.specs.RelocationRules.{section_numbered}
use Rattle.mo_types.specs.Whole.{is_dropped, is_zerofill}
use Rattle.mo_types.specs.declared.atom.Atom.{Atom}
use Rattle.mo_types.specs.declared.key.AtomKey.{AtomKey}
use Rattle.mo_types.specs.declared.object.Object.{Object}
use Rattle.mo_types.specs.declared.object.Section.{Section}

-- the atoms follow each other without gap or overlap from an offset to an end
abbrev pub Tile : ℕ → ℕ → List Atom → Type 0
Tile from end [] = from ≡ end
Tile from end (atom ∷ atoms) = (atom.key.offset ≡ from) × Tile (from + atom.size) end atoms

-- the order of keys in one file: by section, then by offset
abbrev pub IsBefore : AtomKey → AtomKey → Type 0
IsBefore a b = (a.section < b.section) ⊎ ((a.section ≡ b.section) × (a.offset < b.offset))

-- the greatest number not above a bound that passes a test
pub record IsGreatest (test : ℕ → Bool) (bound n : ℕ) : Type 0 where
  pub passes : test n ≡ true
  pub within : n ≤ bound
  pub above_all : (k : ℕ) → test k ≡ true → k ≤ bound → k ≤ n

-- An atom stands within a linked section of its object, and has a byte of that section for each of its own, or none
-- where the section is zerofill.
pub record HasItsBytes (object : Object) (atom : Atom) : Type 0 where
  pub section : Section
  pub numbered : section_numbered object.sections atom.key.section ≡ Some section
  pub linked : is_dropped section ≡ false
  pub within : atom.key.offset + atom.size ≤ section.size
  pub bytes : length (atom_bytes object atom) ≡ (if is_zerofill section.kind then 0 else atom.size)
