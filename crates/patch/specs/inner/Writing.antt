-- How numbers are tested and written.
use Rattle.std.specs.Prelude.{ℕ, ◌++◌, ◌^◌, nat_lt, Bool, ℤ, pos, negsuc, List, take, drop}
use Rattle.mo_bytes.specs.Number.{number_bytes}

-- a distance in bytes that a branch may reach
unfoldable pub is_in_reach : ℤ → Bool
is_in_reach (pos n) = nat_lt n (2 ^ 27)
is_in_reach (negsuc n) = nat_lt n (2 ^ 27)

-- bytes with a number of w bytes at a place
unfoldable pub with_number : ℕ → ℕ → ℕ → List ℕ → List ℕ
with_number w at n bytes = take at bytes ++ (number_bytes w n ++ drop w (drop at bytes))
