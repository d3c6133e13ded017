-- References by their atoms, where their atoms never rise as they are listed.
use Rattle.std.specs.Prelude.{ℕ, ◌≡◌, ◌+◌, ◌<◌, ◌≤◌, ◌++◌, List, length, slice_index_or, IsPermutation}
use Rattle.std.specs.List.{filter}
use Rattle.std.specs.List.Sorted.{IsSorted}
use Rattle.liveness.specs.declared.order.Spot.{Spot}
use Rattle.liveness.specs.inner.Spots.{compare_spots, is_of, place}

-- no reference has an atom behind that of the one before it
abbrev pub IsFalling : List Spot → Type 0
IsFalling spots = (k : ℕ) (d : Spot) → k + 1 < length spots → place (slice_index_or spots (k + 1) d) ≤ place (slice_index_or spots k d)

-- the reference at a place has another atom than the one before it
abbrev pub Begins : List Spot → ℕ → Type 0
Begins spots at = (k : ℕ) (d : Spot) → k + 1 ≡ at → place (slice_index_or spots k d) ≡ place (slice_index_or spots at d) → ⊥

-- it has the same one
pub record GoesOn (spots : List Spot) (at : ℕ) : Type 0 where
  pub behind : 0 < at
  pub same : (k : ℕ) (d : Spot) → k + 1 ≡ at → place (slice_index_or spots k d) ≡ place (slice_index_or spots at d)

-- the reference at a place, if it is there, has no atom behind that of the one before it
abbrev pub FallsTo : List Spot → ℕ → Type 0
FallsTo spots at = (k : ℕ) (d : Spot) → k + 1 ≡ at → place (slice_index_or spots at d) ≤ place (slice_index_or spots k d)

-- the same references, those of one atom in the same order
pub record AreShuffled (old new : List Spot) : Type 0 where
  pub all : IsPermutation old new
  pub listed : (section offset : ℕ) → filter (is_of section offset) new ≡ filter (is_of section offset) old

-- behind others the same references
pub record IsWithShuffled (before old new : List Spot) : Type 0 where
  pub part : List Spot
  pub behind : new ≡ before ++ part
  pub shuffled : AreShuffled old part

-- the same references by their atoms, and those of one atom in the same order
pub record AreTurned (old new : List Spot) : Type 0 where
  pub all : IsPermutation old new
  pub sorted : IsSorted compare_spots new
  pub listed : (section offset : ℕ) → filter (is_of section offset) new ≡ filter (is_of section offset) old
