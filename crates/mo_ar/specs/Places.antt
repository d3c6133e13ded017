-- The members' numbers, by the places of their headers.
use Rattle.std.specs.Prelude.{ℕ, ◌+◌, ◌==◌, List, [], ◌∷◌, Option, Some, None, if◌then◌else◌}

-- the number of the first place of a list that is this one, where numbers begin with n
abbrev pub number_from : ℕ → List ℕ → ℕ → Option ℕ
number_from n [] at = None
number_from n (place ∷ places) at = if place == at then Some n else number_from (n + 1) places at

-- the number of the member whose header stands at a place: members are numbered from 1
unfoldable pub number_of : List ℕ → ℕ → Option ℕ
number_of places at = number_from 1 places at
