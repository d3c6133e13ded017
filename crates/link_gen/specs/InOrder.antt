-- Numbers that are put in order.
use Rattle.std.specs.Prelude.{ℕ, List, Contains}
use Rattle.std.specs.List.Sorted.{IsStrictlyIncreasing}

-- the same numbers, each once and in order
pub record AreInOrder (numbers ordered : List ℕ) : Type 0 where
  pub rises : IsStrictlyIncreasing ordered
  pub keeps : (n : ℕ) → Contains numbers n → Contains ordered n
  pub adds_none : (n : ℕ) → Contains ordered n → Contains numbers n
