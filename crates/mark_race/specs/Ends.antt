-- The ends of arrows, for each atom.
use Rattle.std.specs.Prelude.{ℕ, List, [], get_or}
use Rattle.std.specs.List.{flat_map}

-- the ends of one atom
abbrev pub row_of : List (List ℕ) → ℕ → List ℕ
row_of ends atom = get_or ends atom []

-- the ends of some atoms, one after the other
abbrev pub ends_of : List (List ℕ) → List ℕ → List ℕ
ends_of ends work = flat_map (row_of ends) work
