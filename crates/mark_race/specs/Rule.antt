-- The rule of a race's table: a bit is set where an atom is marked, and each atom that was marked first is gained by one marker.
use Rattle.std.specs.Prelude.{◌≡◌, ◌≢◌, ℕ, ◌+◌, ◌-◌, ◌/◌, ◌%◌, ◌^◌, ◌==◌, ◌&&◌, ◌||◌, ◌<◌, ◌≤◌, Bool, false, not}
use Rattle.std.specs.Prelude.{List, [], ◌∷◌, ◌++◌, cond, length, nat_lt, slice_index, sum_by}
use Rattle.std.specs.Int.{bit_at}
use mathlib.Core.Option.{some}
use lib.ListN.{get_elem?}
use Rattle.atomic_table.specs.Table.{State, Me, Step}
use Rattle.mark_race.specs.Marks.{times, at_start}
use Rattle.mark_race.specs.declared.rule.Terms.{Terms}
use Rattle.mark_race.specs.declared.rule.View.{View}

-- the marker that the race begins with
abbrev pub first_view : Terms → View
first_view terms = record { start = terms.start.items; all_passes = terms.passes; passes = terms.passes; marks = []; gains = [] }

-- a marker that was taken in
abbrev pub spent_view : View
spent_view = record { start = []; all_passes = 0; passes = 0; marks = []; gains = [] }

-- a marker that gave passes away
abbrev pub giver : View → ℕ → View
giver v count = record v { passes = v.passes - count }

-- and the one that has them
abbrev pub newcomer : View → ℕ → View
newcomer v count = record v { passes = count; marks = []; gains = [] }

-- a marker with another's passes, marks and gains
abbrev pub union_of : View → View → View
union_of v w = record v { passes = v.passes + w.passes; marks = v.marks ++ w.marks; gains = v.gains ++ w.gains }

-- an atom, where its bit wasn't set in the word that was found
abbrev pub gain_of : ℕ → ℕ → List ℕ
gain_of atom found = cond (bit_at found (atom % 64) == 0) (atom ∷ []) []

-- a marker that marked an atom, in the word that was found
abbrev pub with_mark : View → ℕ → ℕ → View
with_mark v atom found = record v { marks = v.marks ++ atom ∷ []; gains = v.gains ++ gain_of atom found }

-- the bit of an atom: words have 64 of them
abbrev pub bit_of : List ℕ → ℕ → ℕ
bit_of words atom = bit_at (slice_index words (atom / 64)) (atom % 64)

-- how often all markers marked an atom, and how often they gained it
abbrev pub marked_by : List View → ℕ → ℕ
marked_by views atom = sum_by (λ v. times atom v.marks) views

abbrev pub gained_by : List View → ℕ → ℕ
gained_by views atom = sum_by (λ v. times atom v.gains) views

-- What a marker with passes knows of its race, and that one without passes has no marks and no gains. It marks atoms of the race
-- alone, and marked what it gained.
pub record Fits (terms : Terms) (v : View) : Type 0 where
  pub start : 0 < v.passes → v.start ≡ terms.start.items
  pub all_passes : 0 < v.passes → v.all_passes ≡ terms.passes
  pub no_marks : v.passes ≡ 0 → v.marks ≡ []
  pub no_gains : v.passes ≡ 0 → v.gains ≡ []
  pub within : (atom : ℕ) → 0 < times atom v.marks → atom < length terms.start.items
  pub marked : (atom : ℕ) → times atom v.gains ≤ times atom v.marks

-- The bits are those of the atoms of the start and of the markers' marks. Each marked atom that wasn't at the start is gained
-- once, by one marker, and no other atom is gained. No pass is lost or made.
pub record IsMarking (terms : Terms) (s : State (Unit {0}) View) : Type 0 where
  pub words : length s.words ≡ length terms.start.items / 64 + 1
  pub bits : (atom : ℕ) → atom < length terms.start.items
      → bit_of s.words atom ≡ cond (at_start terms.start.items atom || nat_lt 0 (marked_by s.views atom)) 1 0
  pub gained : (atom : ℕ) → gained_by s.views atom ≡ cond (nat_lt 0 (marked_by s.views atom) && not (at_start terms.start.items atom)) 1 0
  pub passes : sum_by (λ v. v.passes) s.views ≡ terms.passes
  pub views : (seat : ℕ) (v : View) → get_elem? s.views seat ≡ some v → Fits terms v

-- What a mark of an atom tells: where its bit wasn't set, it wasn't marked at the start, nor by this marker
abbrev pub Marked : Step (Unit {0}) → Me (Unit {0}) View → ℕ → Me (Unit {0}) View → Type 0
Marked s me found after = (atom : ℕ) → s.word ≡ atom / 64 → s.first ≡ 2 ^ (atom % 64)
    → (bit_at found (atom % 64) ≡ 0 → (at_start me.0.start atom || nat_lt 0 (times atom me.0.marks)) ≡ false)
    × (after ≡ (with_mark me.0 atom found, me.1))

-- What a look tells: each atom was gained once, and is one of the race
abbrev pub Looked : Step (Unit {0}) → Me (Unit {0}) View → ℕ → Me (Unit {0}) View → Type 0
Looked s me found after = ((atom : ℕ) → times atom me.0.gains ≤ 1) × ((atom : ℕ) → 0 < times atom me.0.gains → atom < length me.0.start) × (after ≡ me)

-- words before and after a note: the bit of an atom is set if it is to be, and the others stay
pub record IsNoted (words new : List ℕ) (atom : ℕ) (is : Bool) : Type 0 where
  pub long : length new ≡ length words
  pub own : bit_of new atom ≡ cond is 1 (bit_of words atom)
  pub others : (other : ℕ) → other ≢ atom → bit_of new other ≡ bit_of words other

-- the bits of the atoms below n are those of the start, and the others aren't set
pub record IsPacked (start : List Bool) (words : List ℕ) (n : ℕ) : Type 0 where
  pub long : length words ≡ length start / 64 + 1
  pub bits : (atom : ℕ) → bit_of words atom ≡ cond (nat_lt atom n && at_start start atom) 1 0
