-- The first of the keys that are equal.
use Rattle.std.specs.Prelude.{◌≡◌, ℕ, ◌+◌, ◌≤◌, Bool, true, false, List, [], ◌∷◌, length, slice_get, slice_index, Option, Some, None}

abbrev pub place_behind : Bool → Option ℕ → Option ℕ
place_behind true later = Some 0
place_behind false None = None
place_behind false (Some n) = Some (n + 1)

-- the place of the first that passes
unfoldable pub place : {K : Type 0} → (K → Bool) → List K → Option ℕ
place test [] = None
place test (x ∷ xs) = place_behind (test x) (place test xs)

-- a key is there, and is equal to one
pub record IsThere {K : Type 0} (E : K → K → Bool) (keys : List K) (at : ℕ) (key : K) : Type 0 where
  pub one : K
  pub there : slice_get keys at ≡ Some one
  pub equal : E key one ≡ true

-- for each key the place of the first that is equal to it
pub record AreFirsts {K : Type 0} (E : K → K → Bool) (keys : List K) (firsts : List ℕ) : Type 0 where
  pub each : length firsts ≡ length keys
  pub there : (a : ℕ) (x : K) → slice_get keys a ≡ Some x → IsThere E keys (slice_index firsts a) x
  pub same : (a b : ℕ) (x y : K) → slice_get keys a ≡ Some x → slice_get keys b ≡ Some y → E x y ≡ true → slice_index firsts a ≡ slice_index firsts b
  pub least : (a : ℕ) (x : K) → slice_get keys a ≡ Some x → slice_index firsts a ≤ a
