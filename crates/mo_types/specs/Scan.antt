-- The first answer of a search through a list.
use Rattle.std.specs.Prelude.{List, [], ◌∷◌, Option, Some, None}

abbrev pub option_or_else : {B : Type 0} → Option B → Option B → Option B
option_or_else (Some y) rest = Some y
option_or_else None rest = rest

-- what the function answers for the first element for which it answers something
abbrev pub first_some : {A B : Type 0} → (A → Option B) → List A → Option B
first_some f [] = None
first_some f (x ∷ xs) = option_or_else (f x) (first_some f xs)
