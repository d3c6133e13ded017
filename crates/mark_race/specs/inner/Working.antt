-- Markers at work, and what they note of their gains.
use Rattle.std.specs.Prelude.{◌≡◌, ◌<◌, ◌≤◌, ◌+◌, ℕ, false, List, All, [], get_or, length, count_by, is_err, map, sum_by}
use Rattle.mark_race.specs.Marks.{Holding, times}
use Rattle.mark_race.specs.Ends.{row_of}
use Rattle.mark_race.specs.declared.level.Worker.{Worker}

-- A worker before and after it marked some atoms. What it gained is noted, unless a note was lost.
pub record HasMarked (atoms : List ℕ) (before after : Worker) : Type 0 where
  pub race : after.marker.race ≡ before.marker.race
  pub passes : after.marker.passes ≡ before.marker.passes
  pub marks : (x : ℕ) → times x after.marker.marks ≡ times x before.marker.marks + times x atoms
  pub new : List ℕ
  pub gains : (x : ℕ) → times x after.marker.gains ≡ times x before.marker.gains + times x new
  pub few : (x : ℕ) → times x new ≤ times x atoms
  pub none_lost : is_err after.notes ≡ false → is_err before.notes ≡ false
  pub noted : is_err after.notes ≡ false → (x : ℕ) → times x after.gained.items ≡ times x before.gained.items + times x new

-- how many workers lost a note
abbrev pub lost : List Worker → ℕ
lost workers = count_by (λ w. is_err w.notes) workers

-- the same of all workers of a level
pub record AllMarked (atoms : List ℕ) (before after : List Worker) : Type 0 where
  pub races : map (λ w. w.marker.race) after ≡ map (λ w. w.marker.race) before
  pub passes : map (λ w. w.marker.passes) after ≡ map (λ w. w.marker.passes) before
  pub marks : (x : ℕ) → sum_by (λ w. times x w.marker.marks) after ≡ sum_by (λ w. times x w.marker.marks) before + times x atoms
  pub new : List ℕ
  pub gains : (x : ℕ) → sum_by (λ w. times x w.marker.gains) after ≡ sum_by (λ w. times x w.marker.gains) before + times x new
  pub few : (x : ℕ) → times x new ≤ times x atoms
  pub noted : lost after ≡ 0 → (x : ℕ) → sum_by (λ w. times x w.gained.items) after ≡ sum_by (λ w. times x w.gained.items) before + times x new

-- workers of these markers, which noted nothing
pub record AreFresh (markers : List Holding) (workers : List Worker) : Type 0 where
  pub markers_are : map (λ w. w.marker) workers ≡ markers
  pub nothing : (x : ℕ) → sum_by (λ w. times x w.gained.items) workers ≡ 0

-- the markers of workers of whom none lost a note, and what they noted together
pub record AreGathered (workers : List Worker) (markers : List Holding) (gained : List ℕ) : Type 0 where
  pub markers_are : map (λ w. w.marker) workers ≡ markers
  pub all : (x : ℕ) → times x gained ≡ sum_by (λ w. times x w.gained.items) workers
  pub none_lost : lost workers ≡ 0

-- work and ends that name so many atoms
pub record AreWorkable (count : ℕ) (ends : List (List ℕ)) (work : List ℕ) : Type 0 where
  pub work_has_ends : All (λ atom. atom < length ends) work
  pub ends_are : All (λ row. All (λ atom. atom < count) row) ends

-- the ends of the atom of a job
abbrev pub row_of_job : List (List ℕ) → List ℕ → ℕ → List ℕ
row_of_job ends work job = get_or (map (row_of ends) work) job []
