-- What was asked of an object of the outside, call by call.
use Rattle.std.specs.Prelude.{ℕ, ◌≡◌, ◌++◌, List, [], ◌∷◌}

-- one call more
pub record Logs {A : Type 0} (call : A) (old new : List A) : Type 0 where
  pub logged : new ≡ old ++ call ∷ []

-- A call on an output, with what it was handed: a write that took some first bytes of its piece, or one that
-- failed.
pub data OutCall : Type 0 where
  Begin : (path : List ℕ) → OutCall
  Write : (piece : List ℕ) → (taken : ℕ) → OutCall
  Cut : (piece : List ℕ) → OutCall
  Finish : OutCall
