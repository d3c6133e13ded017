-- What stands under a name.
use Rattle.std.specs.Prelude.{ℕ, List, Option, bytes_eq}
use Rattle.std.specs.Map.{lookup}

-- the value of the first pair with the name
abbrev pub found : {V : Type 0} → List ℕ → List (List ℕ × V) → Option V
found name pairs = lookup (bytes_eq name) pairs
