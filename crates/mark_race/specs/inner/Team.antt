-- Markers that were made of one, levels that were marked, and the work that is left.
use Rattle.std.specs.Prelude.{◌≡◌, ◌<◌, ◌≤◌, ◌+◌, ◌&&◌, ℕ, Bool, true, List, All, cond, length, nat_lt, sum_by}
use Rattle.mark_race.specs.Marks.{Holding, Race, at_start, times}
use Rattle.mark_race.specs.Ends.{ends_of}
use Rattle.mark_race.specs.Least.{IsClosedFor}
use Rattle.mark_race.specs.Level.{marks_by, gains_by}

-- markers of a race that have together what one had
pub record IsTeam (race : Race) (one : Holding) (team : List Holding) : Type 0 where
  pub races : All (λ m. m.race ≡ race) team
  pub passes : sum_by (λ m. m.passes) team ≡ one.passes
  pub marks : (x : ℕ) → marks_by team x ≡ times x one.marks
  pub gains : (x : ℕ) → gains_by team x ≡ times x one.gains

-- a marker that has together what these have
pub record IsUnion (race : Race) (team : List Holding) (one : Holding) : Type 0 where
  pub own : one.race ≡ race
  pub passes : one.passes ≡ sum_by (λ m. m.passes) team
  pub marks : (x : ℕ) → times x one.marks ≡ marks_by team x
  pub gains : (x : ℕ) → times x one.gains ≡ gains_by team x

-- a marker before and after a level, and what was gained: each atom once in all, and atoms of the race alone
pub record IsNext (race : Race) (atoms : List ℕ) (before after : Holding) (gained : List ℕ) : Type 0 where
  pub own : after.race ≡ race
  pub passes : after.passes ≡ before.passes
  pub marks : (x : ℕ) → times x after.marks ≡ times x before.marks + times x atoms
  pub gains : (x : ℕ) → times x after.gains ≡ times x before.gains + times x gained
  pub among : (x : ℕ) → times x gained ≤ times x atoms
  pub once : (x : ℕ) → times x after.gains ≤ 1
  pub within : (x : ℕ) → 0 < times x after.gains → x < length race.start

-- Atoms whose ends were marked, and those that are work yet: together they are those of the start and what was gained. They are of each set that is closed.
pub record IsAtLevel (race : Race) (ends : List (List ℕ)) (marker : Holding) (work : List ℕ) : Type 0 where
  pub own : marker.race ≡ race
  pub passes : marker.passes ≡ race.passes
  pub done : List ℕ
  pub marks : (x : ℕ) → times x marker.marks ≡ times x (ends_of ends done)
  pub all : (x : ℕ) → times x done + times x work ≡ cond (at_start race.start x) 1 0 + times x marker.gains
  pub once : (x : ℕ) → times x marker.gains ≤ 1
  pub within : (x : ℕ) → 0 < times x marker.gains → x < length race.start
  pub work_once : (x : ℕ) → times x work ≤ 1
  pub work_within : (x : ℕ) → 0 < times x work → x < length race.start
  pub least : (set : ℕ → Bool) → IsClosedFor ends race.start set → (x : ℕ) → 0 < times x done + times x work → set x ≡ true

-- the numbers below n of the atoms that are marked at the start, each once
pub record ArePlaces (start : List Bool) (n : ℕ) (work : List ℕ) : Type 0 where
  pub each : (x : ℕ) → times x work ≡ cond (nat_lt x n && at_start start x) 1 0
