-- What the rounds keep that find the least closed set.
use Rattle.std.specs.Prelude.{ℕ, ◌≡◌, ◌≤◌, ◌<◌, ◌+◌, ◌^◌, ◌&&◌, Bool, not, List, All, map, length, slice_index, take}
use Rattle.std.specs.List.{filter}
use Rattle.island_core.specs.Far.{bytes_before, count_in, has, needs}
use Rattle.island_core.specs.declared.row.Pair.{Pair}
use Rattle.island_core.specs.declared.row.Row.{Row}
use Rattle.island_core.specs.declared.row.Scale.{Scale}

-- how many of the first pairs of a set are of each group
pub record AreCounts (set : List Pair) (many : ℕ) (counts : List ℕ) : Type 0 where
  pub each : (group : ℕ) → group < length counts → slice_index counts group ≡ count_in group (take many set)

-- how far the areas of a set move what stands behind none, one, and more of the groups
pub record IsMoves (scale : Scale) (set : List Pair) (moves : List ℕ) : Type 0 where
  pub all : length moves ≡ scale.groups + 1
  pub each : (group : ℕ) → group ≤ scale.groups → slice_index moves group ≡ bytes_before scale.unit set group
  pub small : All (λ bytes. bytes < 2 ^ 127) moves

-- a branch needs an island and has none in a set
abbrev pub is_new : Scale → List Pair → Row → Bool
is_new scale set row = needs scale set row && not (has set row.pair)

-- the pairs of the branches that pass a test
unfoldable pub picked : (Row → Bool) → List Row → List Pair
picked test rows = map (λ row. row.pair) (filter test rows)

-- the pairs of the branches that need islands and have none
abbrev pub new_pairs_of : Scale → List Pair → List Row → List Pair
new_pairs_of scale set rows = picked (is_new scale set) rows
