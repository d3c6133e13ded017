-- Strings of bytes, and how one begins another.
use Rattle.std.specs.Prelude.{ℕ, Bool, true, false, ◌==◌, ◌&&◌, nat_lt, if◌then◌else◌, List, [], ◌∷◌, length, Option, Some, None}
use Rattle.std.specs.Option.{option_map}

-- whether the first string begins the second
abbrev pub begins : List ℕ → List ℕ → Bool
begins [] text = true
begins (x ∷ front) [] = false
begins (x ∷ front) (y ∷ text) = x == y && begins front text

-- whether the first string begins the second and is shorter
abbrev pub is_above : List ℕ → List ℕ → Bool
is_above front text = begins front text && nat_lt (length front) (length text)

-- the longest string that begins both
abbrev pub common : List ℕ → List ℕ → List ℕ
common [] b = []
common (x ∷ a) [] = []
common (x ∷ a) (y ∷ b) = if x == y then x ∷ common a b else []

-- the bytes before the first NUL, or None where there is no NUL
abbrev pub before_nul : List ℕ → Option (List ℕ)
before_nul [] = None
before_nul (b ∷ bytes) = if b == 0 then Some [] else option_map (λ text. b ∷ text) (before_nul bytes)
