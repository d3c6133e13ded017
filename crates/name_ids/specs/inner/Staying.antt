-- What stays the value while names are added behind, of which there are fewer than 2^24.
use Rattle.std.specs.Prelude.{ℕ, ◌≡◌, ◌<◌, ◌^◌, ◌++◌, List, length, map}

-- that of one element
pub record Stays {X Y : Type 0} (value : List (List ℕ) → X → Y) (names : List (List ℕ)) (x : X) (y : Y) : Type 0 where
  pub stays : (more : List (List ℕ)) → length (names ++ more) < 2 ^ 24 → y ≡ value (names ++ more) x

-- those of a list's elements
pub record AllStay {X Y : Type 0} (value : List (List ℕ) → X → Y) (names : List (List ℕ)) (xs : List X) (ys : List Y) : Type 0 where
  pub stay : (more : List (List ℕ)) → length (names ++ more) < 2 ^ 24 → ys ≡ map (value (names ++ more)) xs
