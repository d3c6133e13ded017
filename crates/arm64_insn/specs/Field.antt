-- Fields of a 32-bit instruction word. A word and a field's value are numbers, and bit 0 is the lowest.
use Rattle.std.specs.Prelude.{◌≡◌, ◌<◌, ◌≤◌, ℕ, ◌+◌, ◌-◌, ◌*◌, ◌/◌, ◌%◌, ◌^◌, nat_lt, if◌then◌else◌, ℤ, pos, negsuc}
use Rattle.std.specs.Int.{bit_at}

-- the value of the field of `width` bits whose lowest bit is bit `low`
unfoldable pub field_at : ℕ → ℕ → ℕ → ℕ
field_at low width word = word / 2 ^ low % 2 ^ width

-- the word with this value in that field: what stands above the field, the value, what stands below
unfoldable pub with_field : ℕ → ℕ → ℕ → ℕ → ℕ
with_field low width word value =
    word / 2 ^ (low + width) * 2 ^ (low + width) + value * 2 ^ low + word % 2 ^ low

-- the bits from `first` to before `end` are as before
pub record SameBits (first end old new : ℕ) : Type 0 where
  pub same : (k : ℕ) → first ≤ k → k < end → bit_at new k ≡ bit_at old k

-- the low `width` bits of the two's complement of a signed number
unfoldable pub twos_complement : ℕ → ℤ → ℕ
twos_complement width (pos n) = n % 2 ^ width
twos_complement width (negsuc n) = 2 ^ width - 1 - n % 2 ^ width

-- the signed number whose two's complement in `width` bits this is
unfoldable pub sign_extended : ℕ → ℕ → ℤ
sign_extended width n = if nat_lt n (2 ^ (width - 1)) then pos n else negsuc (2 ^ width - 1 - n)
