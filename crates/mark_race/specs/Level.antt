-- What a level of marks makes of the markers.
use Rattle.std.specs.Prelude.{◌≡◌, ◌≤◌, ◌+◌, ℕ, List, map, sum_by}
use Rattle.mark_race.specs.Marks.{Holding, times}

-- how often markers together marked an atom, and how often they gained it
abbrev pub marks_by : List Holding → ℕ → ℕ
marks_by markers atom = sum_by (λ m. times atom m.marks) markers

abbrev pub gains_by : List Holding → ℕ → ℕ
gains_by markers atom = sum_by (λ m. times atom m.gains) markers

-- Markers before and after they marked some atoms. Each has its race and its passes. Together their marks grew by these atoms, as
-- often as they stand there, and their gains by those that are told, which are some of these atoms.
pub record HaveMarked (atoms : List ℕ) (before after : List Holding) (gained : List ℕ) : Type 0 where
  pub races : map (λ m. m.race) after ≡ map (λ m. m.race) before
  pub passes : map (λ m. m.passes) after ≡ map (λ m. m.passes) before
  pub marks : (atom : ℕ) → marks_by after atom ≡ marks_by before atom + times atom atoms
  pub gains : (atom : ℕ) → gains_by after atom ≡ gains_by before atom + times atom gained
  pub among : (atom : ℕ) → times atom gained ≤ times atom atoms
