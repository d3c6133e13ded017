-- sleb128 (DWARF 5, section 7.6): groups of seven bits, as in uleb128, that are a number in two's complement.
use Rattle.std.specs.Prelude.{ℕ, ◌+◌, ◌-◌, ◌*◌, ◌^◌, ◌<◌, ◌≤◌, length, nat_le, nat_lt, ◌&&◌, ℤ, pos, negsuc, List, drop, Option, Some, None, if◌then◌else◌}
use Rattle.std.specs.Option.{option_map, option_and_then}
use Rattle.mo_bytes.specs.Uleb.{uleb_front}

-- a number of so many bits in two's complement, where it is one of 64 bits
unfoldable pub signed_64 : ℕ → ℕ → Option ℤ
signed_64 bits n =
    if nat_lt (2 * n) (2 ^ bits) then (if nat_lt n (2 ^ 63) then Some (pos n) else None)
    else if nat_lt (2 ^ bits - 1 - n) (2 ^ 63) then Some (negsuc (2 ^ bits - 1 - n))
    else None

-- the groups that the bytes begin with, as one number, and how many they are, if they are no more than `most`
unfoldable pub groups_within : ℕ → List ℕ → Option (ℕ × ℕ)
groups_within most bytes = option_and_then (λ found. if nat_le found.1 most then Some found else None) (uleb_front bytes)

-- at least one group, and no more than `most`, which the bytes hold
pub record AreGroups (most : ℕ) (bytes : List ℕ) (found : ℕ × ℕ) : Type 0 where
  pub some : 0 < found.1
  pub few : found.1 ≤ most
  pub within : found.1 ≤ length bytes
  pub small : found.0 < 2 ^ (7 * found.1)

-- the number of 64 bits and of at most ten bytes that begins at a place, and the next place
unfoldable pub sleb_at : List ℕ → ℕ → Option (ℤ × ℕ)
sleb_at bytes at =
    option_and_then (λ found. option_map (λ number. (number, at + found.1)) (signed_64 (7 * found.1) found.0))
    (groups_within 10 (drop at bytes))
