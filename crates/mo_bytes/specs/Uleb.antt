-- uleb128 (DWARF 5, section 7.6): a number in groups of seven bits, a byte for each, the lowest first. Each
-- byte but the last has 128 more.
use Rattle.std.specs.Prelude.{ℕ, zero, suc, ◌≡◌, ◌+◌, ◌-◌, ◌*◌, ◌/◌, ◌%◌, ◌^◌, ◌<◌, ◌≤◌, List, [], ◌∷◌, drop, Option, Some, None, nat_lt, nat_le, ◌&&◌, if◌then◌else◌}
use Rattle.std.specs.Option.{option_map, option_and_then}

-- the bytes spell the number, and none is left over
abbrev pub IsUleb : List ℕ → ℕ → Type 0
IsUleb [] n = ⊥
IsUleb (b ∷ []) n = (b < 128) × (n ≡ b)
IsUleb (b ∷ c ∷ bs) n = (128 ≤ b) × (b < 256) × (high : ℕ) × (n + 128 ≡ b + 128 * high) × IsUleb (c ∷ bs) high

-- the number that the bytes begin with, and how many bytes spell it, or None where they end before it does
unfoldable pub uleb_front : List ℕ → Option (ℕ × ℕ)
uleb_front [] = None
uleb_front (b ∷ bs) =
    if nat_lt b 128 then Some (b, 1) else option_map (λ high. (b - 128 + 128 * high.0, high.1 + 1)) (uleb_front bs)

-- that number, where it is below 2^64 and has at most ten bytes
unfoldable pub short_uleb : List ℕ → Option (ℕ × ℕ)
short_uleb bytes =
    option_and_then (λ found. if nat_le found.1 10 && nat_lt found.0 (2 ^ 64) then Some found else None) (uleb_front bytes)

-- the number below 2^64 and of at most ten bytes that begins at a place, and the next place
unfoldable pub uleb_at : List ℕ → ℕ → Option (ℕ × ℕ)
uleb_at bytes at = option_map (λ found. (found.0, at + found.1)) (short_uleb (drop at bytes))

-- a spelling with no more groups than it needs, and with at most one more than `groups`
unfoldable pub uleb_within : ℕ → ℕ → List ℕ
uleb_within zero n = n ∷ []
uleb_within (suc groups) n = if nat_lt n 128 then n ∷ [] else (n % 128 + 128) ∷ uleb_within groups (n / 128)

-- the shortest spelling of a number: it has no more groups than the number says
unfoldable pub uleb : ℕ → List ℕ
uleb n = uleb_within n n
