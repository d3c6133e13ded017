-- The rule of a race's table: its words are those that the offers of all racers leave.
use Rattle.std.specs.Prelude.{◌≡◌, ℕ, ◌+◌, ◌-◌, ◌<◌, ◌≤◌, List, [], ◌∷◌, ◌++◌, All, sum_by, slice_index}
use Rattle.std.specs.List.{flat_map}
use mathlib.Core.Option.{some}
use lib.ListN.{get_elem?}
use Rattle.atomic_table.specs.Table.{State, Me, Step}
use Rattle.race_core.specs.Run.{run}
use Rattle.name_race.specs.declared.rule.Terms.{Terms}
use Rattle.name_race.specs.declared.rule.View.{View}

-- the racer that the race begins with
abbrev pub first_view : Terms → View
first_view terms = record { start = terms.start.items; all_passes = terms.passes; passes = terms.passes; offers = []; known = [] }

-- a racer that was taken in
abbrev pub spent_view : View
spent_view = record { start = []; all_passes = 0; passes = 0; offers = []; known = [] }

-- a racer that gave passes away
abbrev pub giver : View → ℕ → View
giver v count = record v { passes = v.passes - count }

-- and the one that has them
abbrev pub newcomer : View → ℕ → View
newcomer v count = record v { passes = count; offers = [] }

-- a racer with another's passes, offers and knowledge
abbrev pub union_of : View → View → View
union_of v w = record v { passes = v.passes + w.passes; offers = v.offers ++ w.offers; known = v.known ++ w.known }

-- a racer that offered a word for a name, and found one there
abbrev pub with_offer : View → ℕ → ℕ → ℕ → View
with_offer v name word found = record v { offers = v.offers ++ (name, word) ∷ []; known = v.known ++ (name, found) ∷ (name, word) ∷ [] }

-- a racer that found a word
abbrev pub with_look : View → ℕ → ℕ → View
with_look v name found = record v { known = v.known ++ (name, found) ∷ [] }

-- the offers of all racers
abbrev pub offers_of : List View → List (ℕ × ℕ)
offers_of views = flat_map (λ v. v.offers) views

-- the passes of all racers together
abbrev pub passes_of : List View → ℕ
passes_of views = sum_by (λ v. v.passes) views

-- what a racer with passes knows of its race, that one without passes knows and offered nothing, and that no known word is below the word
pub record Fits (terms : Terms) (words : List ℕ) (v : View) : Type 0 where
  pub start : 0 < v.passes → v.start ≡ terms.start.items
  pub all_passes : 0 < v.passes → v.all_passes ≡ terms.passes
  pub no_offers : v.passes ≡ 0 → v.offers ≡ []
  pub knows_nothing : v.passes ≡ 0 → v.known ≡ []
  pub known : All (λ k. slice_index words k.0 ≤ k.1) v.known

-- the words are those that the offers of all racers leave, and no pass is lost or made
pub record IsRunning (terms : Terms) (s : State (Unit {0}) View) : Type 0 where
  pub words : s.words ≡ run terms.start.items (offers_of s.views)
  pub passes : passes_of s.views ≡ terms.passes
  pub views : (seat : ℕ) (v : View) → get_elem? s.views seat ≡ some v → Fits terms s.words v

-- a word that was found is not above the one at the start, nor above any that the racer knew for the name
pub record IsBelow (v : View) (name found : ℕ) : Type 0 where
  pub start : found ≤ slice_index v.start name
  pub known : All (λ k. k.0 ≡ name → found ≤ k.1) v.known

-- what an offer tells
abbrev pub Offered : Step (Unit {0}) → Me (Unit {0}) View → ℕ → Me (Unit {0}) View → Type 0
Offered s me found after = IsBelow me.0 s.word found × (after ≡ (with_offer me.0 s.word s.first found, me.1))

-- what a look tells
abbrev pub Looked : Step (Unit {0}) → Me (Unit {0}) View → ℕ → Me (Unit {0}) View → Type 0
Looked s me found after = IsBelow me.0 s.word found × (after ≡ (with_look me.0 s.word found, me.1))
