-- Pointers by their addresses.
use Rattle.std.specs.Prelude.{ℕ, ◌-◌, Bool, nat_lt, not}

-- 8 bytes or more lie from one address to another
abbrev pub has_eight : ℕ → ℕ → Bool
has_eight a b = not (nat_lt (b - a) 8)
