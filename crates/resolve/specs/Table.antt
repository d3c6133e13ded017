-- Goals in a pool, and the places that symbols have in it.
use Rattle.std.specs.Prelude.{ℕ, ◌<◌, All, List, length, map, slice_get, unwrap_or}
use Rattle.mo_types.specs.declared.goal.Goal.{Goal}
use Rattle.mo_types.specs.declared.goal.Goal.TheVariants.{Nobody}

-- the goals of all files' symbols: a pool, and for each file the places of its symbols' goals there
pub record Tabled : Type 0 where
  pub pool : List Goal
  pub places : List (List ℕ)

-- those of one file's symbols
pub record Pooled : Type 0 where
  pub pool : List Goal
  pub places : List ℕ

-- each place is one in the pool
abbrev pub AreWithin : List Goal → List ℕ → Type 0
AreWithin pool places = All (λ place. place < length pool) places

abbrev pub goal_in : List Goal → ℕ → Goal
goal_in pool place = unwrap_or (slice_get pool place) Nobody

-- the goals at some places
unfoldable pub goals_in : List Goal → List ℕ → List Goal
goals_in pool places = map (goal_in pool) places

-- the goals of a file's symbols, in order
abbrev pub file_goals : Pooled → List Goal
file_goals goals = goals_in goals.pool goals.places

-- the goals of each file's symbols
unfoldable pub goals_of : Tabled → List (List Goal)
goals_of table = map (goals_in table.pool) table.places
