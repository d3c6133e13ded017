-- What is known of names between two rounds.
use Rattle.std.specs.Prelude.{ℕ, ◌-◌, ◌++◌, List, length, replicate, take}

-- so many elements of a list, and where it has fewer, a value in place of the others
abbrev pub padded : {X : Type 0} → ℕ → X → List X → List X
padded n x xs = take n xs ++ replicate (n - length xs) x
