-- The files that an output has begun, one after the other.
use Rattle.std.specs.Prelude.{ℕ, ◌≡◌, ◌++◌, ◌≤◌, List, [], ◌∷◌, length, take, Bool, true, false}

-- a file as it is written
pub record Written : Type 0 where
  pub path : List ℕ
  pub bytes : List ℕ
  pub done : Bool

-- the list with its last element changed
abbrev pub at_last : {A : Type 0} → (A → A) → List A → List A
at_last change [] = []
at_last change (x ∷ []) = change x ∷ []
at_last change (x ∷ y ∷ ys) = x ∷ at_last change (y ∷ ys)

-- a file with more bytes at its end
abbrev pub with_more : List ℕ → Written → Written
with_more more file = record file { bytes = file.bytes ++ more }

abbrev pub finished : Written → Written
finished file = record file { done = true }

-- a file was begun, with no bytes
pub record Begins (path : List ℕ) (old new : List Written) : Type 0 where
  pub begun : new ≡ old ++ record { path = path; bytes = []; done = false } ∷ []

-- the last file has the first `count` bytes of the piece more
pub record Takes (piece : List ℕ) (count : ℕ) (old new : List Written) : Type 0 where
  pub taken : new ≡ at_last (with_more (take count piece)) old

-- the last file has some first bytes of the piece more, perhaps none
pub record TakesSome (piece : List ℕ) (old new : List Written) : Type 0 where
  pub count : ℕ
  pub within : count ≤ length piece
  pub taken : new ≡ at_last (with_more (take count piece)) old

-- the last file is done
pub record Finishes (old new : List Written) : Type 0 where
  pub done : new ≡ at_last finished old
