-- How the cuts of a section are found, and how the section is cut there.
use Rattle.std.specs.Prelude.{ℕ, ◌≤◌, List, [], ◌∷◌, slice_index_or, Contains}
use Rattle.std.specs.List.Sorted.{IsStrictlyIncreasing}

-- the same numbers, each once and in order
pub record AreInOrder (numbers ordered : List ℕ) : Type 0 where
  pub rises : IsStrictlyIncreasing ordered
  pub keeps : (n : ℕ) → Contains numbers n → Contains ordered n
  pub adds_none : (n : ℕ) → Contains ordered n → Contains numbers n

-- each number isn't above the next one, or above a size, which none of them passes
abbrev pub RiseTo : ℕ → List ℕ → Type 0
RiseTo size [] = Unit {0}
RiseTo size (cut ∷ cuts) = (cut ≤ slice_index_or cuts 0 size) × (slice_index_or cuts 0 size ≤ size) × RiseTo size cuts
