-- Atoms by numbers, and arrows between them.
use Rattle.std.specs.Prelude.{◌≡◌, ℕ, ◌+◌, ◌*◌, ◌<◌, ◌≤◌, ◌++◌, ◌==◌, Bool, List, All, length, map, get_or, true}
use Rattle.std.specs.List.{IsDistinct, filter}
use Rattle.mark_core.specs.Kept.{same_atom}
use Rattle.mo_types.specs.declared.edge.Edge.{Edge}
use Rattle.mo_types.specs.declared.key.AtomKey.{AtomKey}
use Rattle.mark_race.specs.declared.numbers.Arrow.{Arrow}
use Rattle.mark_race.specs.Ends.{row_of}
use Rattle.mark_race.specs.Marks.{at_start}
use Rattle.list_lemmas.proofs.Members.{In}

-- the atom of a number, or any where there is none
abbrev pub atom_at : List AtomKey → ℕ → AtomKey
atom_at atoms number = get_or atoms number (record { file = record { position = 0; member = 0 }; section = 0; offset = 0 })

-- the arrow between the atoms themselves
abbrev pub edge_of : List AtomKey → Arrow → Edge
edge_of atoms arrow = record { from = atom_at atoms arrow.from; to = atom_at atoms arrow.to }

abbrev pub IsWithin : ℕ → Arrow → Type 0
IsWithin count arrow = (arrow.from < count) × (arrow.to < count)

-- the numbers of arrows stand for these atoms
pub record AreNumbered (all : List Edge) (atoms : List AtomKey) (arrows : List Arrow) : Type 0 where
  pub named : map (edge_of atoms) arrows ≡ all
  pub within : All (IsWithin (length atoms)) arrows

-- the place at which an atom was put among others, behind which only such stand as weren't there
pub record IsAt (atoms : List AtomKey) (atom : AtomKey) (new : List AtomKey) (at : ℕ) : Type 0 where
  pub rest : List AtomKey
  pub grown : new ≡ atoms ++ rest
  pub within : at < length new
  pub there : atom_at new at ≡ atom

-- arrows are put behind others, and atoms that weren't named before behind those that were
pub record Adds (more : List Edge) (atoms : List AtomKey) (arrows : List Arrow) (new_atoms : List AtomKey) (new_arrows : List Arrow) : Type 0 where
  pub each : (all : List Edge) → AreNumbered all atoms arrows → AreNumbered (all ++ more) new_atoms new_arrows
  pub few : length new_atoms ≤ length atoms + 2 * length more
  pub once : IsDistinct same_atom atoms → IsDistinct same_atom new_atoms

-- an arrow begins in the atom of a number
abbrev pub is_from : ℕ → Arrow → Bool
is_from number arrow = arrow.from == number

-- where the arrows of an atom end
abbrev pub ends_from : List Arrow → ℕ → List ℕ
ends_from arrows number = map (λ arrow. arrow.to) (filter (is_from number) arrows)

-- a table has for each atom where its arrows end
pub record AreEnds (arrows : List Arrow) (count : ℕ) (table : List (List ℕ)) : Type 0 where
  pub long : length table ≡ count
  pub each : (number : ℕ) → number < count → row_of table number ≡ ends_from arrows number

-- the atoms among the first n that are marked
pub record ArePicked (atoms : List AtomKey) (marked : List Bool) (n : ℕ) (picked : List AtomKey) : Type 0 where
  pub each : (number : ℕ) → number < n → at_start marked number ≡ true → In (atom_at atoms number) picked
  pub only : (atom : AtomKey) → In atom picked → (number : ℕ) × (at_start marked number ≡ true) × (atom_at atoms number ≡ atom)
