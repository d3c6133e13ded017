-- Goals in a pool that grows at its end, and the places of symbols' goals there.
use Rattle.std.specs.Prelude.{ℕ, ◌≡◌, List, Some, map, slice_get}
use Rattle.mo_types.specs.declared.goal.Goal.{Goal}

-- a goal stands at a place of a pool
pub record IsAt (pool : List Goal) (place : ℕ) (goal : Goal) : Type 0 where
  pub there : slice_get pool place ≡ Some goal

-- what stands in a pool stands at the same place in another one
pub record Extends (pool new : List Goal) : Type 0 where
  pub still : (place : ℕ) (goal : Goal) → slice_get pool place ≡ Some goal → slice_get new place ≡ Some goal

-- these goals, in order, stand at these places
pub record ArePlaces (pool : List Goal) (places : List ℕ) (goals : List Goal) : Type 0 where
  pub are : map (slice_get pool) places ≡ map (λ goal. Some goal) goals

-- those of each of some lists stand at the places of a list of their own
pub record AreTables (pool : List Goal) (places : List (List ℕ)) (goals : List (List Goal)) : Type 0 where
  pub are : map (map (slice_get pool)) places ≡ map (map (λ goal. Some goal)) goals
