-- What marks come to: the least set of atoms that is closed.
use Rattle.std.specs.Prelude.{◌≡◌, ◌<◌, ℕ, Bool, true, List, length}
use Rattle.mark_race.specs.Marks.{at_start, times}
use Rattle.mark_race.specs.Ends.{row_of}

-- A set of atoms, by its test, has those of the start, and with an atom those to which its arrows lead.
pub record IsClosedFor (ends : List (List ℕ)) (start : List Bool) (set : ℕ → Bool) : Type 0 where
  pub begun : (atom : ℕ) → at_start start atom ≡ true → set atom ≡ true
  pub led : (atom to : ℕ) → set atom ≡ true → 0 < times to (row_of ends atom) → set to ≡ true

-- For each atom whether it is of the least set that is closed.
pub record AreLeast (ends : List (List ℕ)) (start marked : List Bool) : Type 0 where
  pub long : length marked ≡ length start
  pub closed : IsClosedFor ends start (at_start marked)
  pub least : (set : ℕ → Bool) → IsClosedFor ends start set → (atom : ℕ) → at_start marked atom ≡ true → set atom ≡ true
