-- Multiples of a unit.
use Rattle.std.specs.Prelude.{ℕ, ◌≡◌, ◌+◌, ◌-◌, ◌*◌, ◌/◌, ◌≤◌, Option, Some, None, nat_lt, if◌then◌else◌}

-- the least multiple of a unit, which isn't 0, that isn't below the value
unfoldable pub least_multiple : ℕ → ℕ → ℕ
least_multiple unit value = (value + (unit - 1)) / unit * unit

-- that multiple, where it is below a limit
abbrev pub least_multiple_below : ℕ → ℕ → ℕ → Option ℕ
least_multiple_below limit unit value =
    if nat_lt (least_multiple unit value) limit then Some (least_multiple unit value) else None

-- a multiple of the unit from the value on, and none is less
pub record IsLeastMultiple (unit value multiple : ℕ) : Type 0 where
  pub whole : (count : ℕ) × (multiple ≡ count * unit)
  pub enough : value ≤ multiple
  pub least : (count : ℕ) → value ≤ count * unit → multiple ≤ count * unit
