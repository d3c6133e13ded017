-- The fronts of names, as numbers.
use Rattle.std.specs.Prelude.{◌≡◌, ◌<◌, ℕ, zero, suc, ◌+◌, ◌*◌, ◌^◌, List, [], ◌∷◌, drop, get_or}
use Rattle.symbol_winners.specs.declared.front.Front.{Front}

-- the number that the first n bytes spell, the first at its top, with zeros behind a shorter list
unfoldable pub front_number : ℕ → List ℕ → ℕ
front_number zero xs = 0
front_number (suc n) [] = 0
front_number (suc n) (x ∷ xs) = x * 256 ^ n + front_number n xs

-- each is below 256
abbrev pub AreBytes : List ℕ → Type 0
AreBytes xs = (k : ℕ) → get_or xs k 0 < 256

-- a front has the numbers of the first three times eight bytes of a name
pub record IsFrontOf (name : List ℕ) (front : Front) : Type 0 where
  pub bytes : AreBytes name
  pub first_is : front.first ≡ front_number 8 name
  pub second_is : front.second ≡ front_number 8 (drop 8 name)
  pub third_is : front.third ≡ front_number 8 (drop 16 name)
