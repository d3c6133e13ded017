-- The groups of `__text`: they cut its atoms, in order and from the first one on, each as long as it may be.
use Rattle.std.specs.Prelude.{ℕ, ◌≡◌, ◌+◌, ◌-◌, ◌<◌, ◌≤◌, ◌⊎◌, List, ◌∷◌, length, slice_index, slice_index_or}
use Rattle.island_core.specs.declared.cut.Extent.{Extent}

-- an atom by its number
abbrev pub extent_at : List Extent → ℕ → Extent
extent_at extents at = slice_index_or extents at (record { from = 0; to = 0 })

-- The atoms from one number to another are a group: from its first byte to its last it has so many bytes at most, or it is
-- a single atom, and with the next atom it would have more.
pub record IsGroup (most : ℕ) (extents : List Extent) (first end : ℕ) : Type 0 where
  pub some : first < end
  pub within : end ≤ length extents
  pub short : (end ≡ first + 1) ⊎ ((extent_at extents (end - 1)).to ≤ (extent_at extents first).from + most)
  pub long : end < length extents → (extent_at extents first).from + most < (extent_at extents end).to

-- where the group of a number begins, by the groups' ends
abbrev pub first_of : List ℕ → ℕ → ℕ
first_of ends group = slice_index (0 ∷ ends) group

-- The ends of groups that follow each other from the first atom to the last.
pub record AreEnds (most : ℕ) (extents : List Extent) (ends : List ℕ) : Type 0 where
  pub each : (group : ℕ) → group < length ends → IsGroup most extents (first_of ends group) (slice_index ends group)
  pub all : first_of ends (length ends) ≡ length extents

-- no atom ends before the one before it
abbrev pub EndsRise : List Extent → Type 0
EndsRise extents = (low high : ℕ) → low ≤ high → high < length extents → (extent_at extents low).to ≤ (extent_at extents high).to
