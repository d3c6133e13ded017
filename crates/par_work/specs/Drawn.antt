-- Claims and their drawers, as contracts see them.
use Rattle.std.specs.Prelude.{◌≡◌, ℕ, ◌==◌, List, cond, count_by, nat_lt}
use Rattle.atomic_table.specs.Seated.{TableId}

-- What is fixed when claims begin: what tells them from other claims, and the passes of all their drawers together
pub record Counter : Type 0 where
  pub id : TableId
  pub passes : ℕ

-- What a drawer keeps: its claims, its passes, and the numbers that it drew or took over
pub record Holding : Type 0 where
  pub claims : TableId
  pub passes : ℕ
  pub draws : List ℕ

-- how often a number stands in a list
abbrev pub times : ℕ → List ℕ → ℕ
times x xs = count_by (λ y. y == x) xs

-- once where the number is below n, and else never
abbrev pub once_below : ℕ → ℕ → ℕ
once_below x n = cond (nat_lt x n) 1 0

-- the list has each number below n once, in some order, and no other
pub record AreBelow (n : ℕ) (xs : List ℕ) : Type 0 where
  pub each : (x : ℕ) → times x xs ≡ once_below x n
