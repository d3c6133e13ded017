-- Atoms that are marked, by their numbers, and a race for marks and its markers as contracts see them.
use Rattle.std.specs.Prelude.{◌≡◌, ℕ, ◌==◌, ◌&&◌, ◌||◌, Bool, false, not, List, cond, count_by, nat_lt, slice_index_or}
use Rattle.atomic_table.specs.Seated.{TableId}

-- how often a number stands in a list
abbrev pub times : ℕ → List ℕ → ℕ
times x xs = count_by (λ y. y == x) xs

-- an atom is marked at the start
abbrev pub at_start : List Bool → ℕ → Bool
at_start start atom = slice_index_or start atom false

-- an atom is marked: at the start, or by at least one of these marks
abbrev pub is_marked : List Bool → List ℕ → ℕ → Bool
is_marked start marks atom = at_start start atom || nat_lt 0 (times atom marks)

-- these gains have each atom once that is marked, but not at the start, and no other
pub record AreGains (start : List Bool) (marks gains : List ℕ) : Type 0 where
  pub each : (atom : ℕ) → times atom gains ≡ cond (is_marked start marks atom && not (at_start start atom)) 1 0

-- What is fixed when a race begins: what tells it from other races, the atoms that are marked at the start, and the passes of all its markers together
pub record Race : Type 0 where
  pub id : TableId
  pub start : List Bool
  pub passes : ℕ

-- What a marker keeps: its race, its passes, the atoms that it marked, and those of them that it was the first to mark; and what it took over
pub record Holding : Type 0 where
  pub race : Race
  pub passes : ℕ
  pub marks : List ℕ
  pub gains : List ℕ
