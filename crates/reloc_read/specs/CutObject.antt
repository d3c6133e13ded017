-- An object with its atoms.
use Rattle.std.specs.Prelude.{ℕ, ◌≡◌, ◌≤◌, ◌<◌, ◌==◌, ◌&&◌, ◌||◌, Bool, true, false, nat_lt, nat_le, List, length, slice_index_or}
use Rattle.std.specs.List.Sorted.{IsPartitionPoint}
use Rattle.mo_types.specs.declared.atom.Atom.{Atom}
use Rattle.mo_types.specs.declared.key.AtomKey.{AtomKey}
use Rattle.mo_types.specs.Atoms.{atoms_of}
use Rattle.mo_types.specs.Whole.{IsWhole}
use Rattle.reloc_read.specs.declared.cut_object.CutObject.{CutObject}

-- the object is whole, and the atoms are its own
pub record IsCut (cut : CutObject) : Type 0 where
  pub whole : IsWhole cut.object.now
  pub atoms : cut.atoms.now ≡ atoms_of cut.object.now cut.file

-- a key in the section of a number, or in one before it, that isn't after an offset of it
abbrev pub is_up_to : ℕ → ℕ → AtomKey → Bool
is_up_to number offset key = nat_lt key.section number || (key.section == number && nat_le key.offset offset)

-- atoms are parted at a place: those before it aren't after an offset of the section of a number, and the others are
abbrev pub IsPointOf : ℕ → ℕ → List Atom → ℕ → Type 0
IsPointOf number offset atoms at =
    IsPartitionPoint (λ atom. is_up_to number offset atom.key ≡ true) (λ atom. is_up_to number offset atom.key ≡ false) atoms at

-- the atoms before a place aren't after an offset of the section of a number
pub record IsLow (number offset : ℕ) (atoms : List Atom) (at : ℕ) : Type 0 where
  pub within : at ≤ length atoms
  pub each : (k : ℕ) (d : Atom) → k < at → is_up_to number offset (slice_index_or atoms k d).key ≡ true

-- the atoms from a place on are after it
pub record IsHigh (number offset : ℕ) (atoms : List Atom) (at : ℕ) : Type 0 where
  pub each : (k : ℕ) (d : Atom) → at ≤ k → k < length atoms → is_up_to number offset (slice_index_or atoms k d).key ≡ false
