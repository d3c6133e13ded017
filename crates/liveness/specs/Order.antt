-- The references of a file by the atoms that have them.
use Rattle.std.specs.Prelude.{ℕ, ◌≡◌, ◌+◌, ◌*◌, ◌^◌, ◌==◌, Bool, List, length, slice_get, IsPermutation}
use Rattle.std.specs.List.{filter, range_with_len}
use Rattle.std.specs.List.Sorted.{IsSorted}
use Rattle.std.specs.Option.{option_map_or}
use Rattle.std.specs.Ordering.{nat_cmp}
use Rattle.std.specs.declared.cmp.Ordering.{Ordering}
use Rattle.mo_types.specs.declared.reference.Ref.{Ref}

-- the place of an atom among those of its object: by section, then by offset, which has 64 bits
abbrev pub place_of : ℕ → ℕ → ℕ
place_of section offset = section * 2 ^ 64 + offset

-- that of the atom of the reference at an index of a file's list
unfoldable pub place_at : List Ref → ℕ → ℕ
place_at refs index = option_map_or (λ r. place_of r.atom.section r.atom.offset) (slice_get refs index) 0

-- by atom
abbrev pub compare_at : List Ref → ℕ → ℕ → Ordering
compare_at refs a b = nat_cmp (place_at refs a) (place_at refs b)

-- the reference at an index is one of the atom at an offset of the section of a number
abbrev pub is_at : List Ref → ℕ → ℕ → ℕ → Bool
is_at refs section offset index = place_at refs index == place_of section offset

-- the indices of the references of that atom, as the file lists them
unfoldable pub refs_of_atom : List Ref → ℕ → ℕ → List ℕ
refs_of_atom refs section offset = filter (is_at refs section offset) (range_with_len 0 (length refs))

-- the index of each reference once, by atom, and those of one atom as the file lists them
pub record AreInOrder (refs : List Ref) (order : List ℕ) : Type 0 where
  pub all : IsPermutation (range_with_len 0 (length refs)) order
  pub sorted : IsSorted (compare_at refs) order
  pub listed : (section offset : ℕ) → filter (is_at refs section offset) order ≡ refs_of_atom refs section offset
