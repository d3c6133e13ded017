-- The numbers of Mach-O's structures: w bytes, the lowest first (`loader.h`, on a little-endian machine).
use Rattle.std.specs.Prelude.{ℕ, ◌+◌, List, length, drop, Option, Some, None, nat_le, if◌then◌else◌}
use Rattle.byteorder.specs.Endian.{little_number, little_bytes}

-- the number of w bytes that begins at a place
unfoldable pub number : ℕ → List ℕ → ℕ → ℕ
number w bytes at = little_number w (drop at bytes)

-- that number, where its w bytes lie in the list
abbrev pub number_at : ℕ → List ℕ → ℕ → Option ℕ
number_at w bytes at = if nat_le (at + w) (length bytes) then Some (number w bytes at) else None

-- the bytes of a number, its lowest w bytes, the lowest first
unfoldable pub number_bytes : ℕ → ℕ → List ℕ
number_bytes w n = little_bytes w n
