-- What an object of the outside tells of itself before and after a call.
use Rattle.std.specs.Prelude.{ℕ, ◌≡◌, ◌++◌, ◌≤◌, List, length, take, Option, None, Some}

-- the step led from what was told to what is told now; an object that tells nothing never tells again
abbrev pub Tells : {A : Type 0} → (A → A → Type 0) → Option A → Option A → Type 0
Tells step old None = Unit {0}
Tells step None (Some _) = ⊥
Tells step (Some a) (Some b) = step a b

-- nothing changed
pub record Stays {A : Type 0} (old new : A) : Type 0 where
  pub same : new ≡ old

-- the bytes came after those that were there
pub record Appends (bytes old new : List ℕ) : Type 0 where
  pub appended : new ≡ old ++ bytes

-- the first bytes of a piece came after those that were there, perhaps none
pub record AppendsSome (piece old new : List ℕ) : Type 0 where
  pub count : ℕ
  pub within : count ≤ length piece
  pub appended : new ≡ old ++ take count piece
