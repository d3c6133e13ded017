-- Hashes of names: of short ones by words, of long ones from the last byte to the first, so that those of all ends of a
-- string are steps of one.
use Rattle.std.specs.Prelude.{ℕ, zero, suc, ◌-◌, ◌*◌, ◌/◌, ◌%◌, ◌^◌, ◌==◌, ◌≡◌, ◌<◌, nat_le, nat_lt, List, [], ◌∷◌, length, drop, slice_index, if◌then◌else◌}
use Rattle.std.specs.Int.Bits.{bit_xor}
use Rattle.mo_bytes.specs.Number.{number}

-- FNV-1a of 64 bits
abbrev pub BASIS : ℕ
BASIS = 0xcbf29ce484222325

abbrev pub PRIME : ℕ
PRIME = 0x100000001b3

-- the hash with one byte more
unfoldable pub mixed : ℕ → ℕ → ℕ
mixed hash byte = (bit_xor hash byte * PRIME) % 2 ^ 64

-- the hash with some bytes more in front
unfoldable pub hash_on : ℕ → List ℕ → ℕ
hash_on hash [] = hash
hash_on hash (byte ∷ rest) = mixed (hash_on hash rest) byte

abbrev pub long_hash : List ℕ → ℕ
long_hash name = hash_on BASIS name

abbrev pub MULTIPLIER : ℕ
MULTIPLIER = 0x9e3779b97f4a7c15

abbrev pub folded : ℕ → ℕ
folded product = bit_xor product (product / 2 ^ 32)

-- the hash with 8 bytes more, whose upper half then depends on all of them
unfoldable pub stepped : ℕ → ℕ → ℕ
stepped hash word = folded (bit_xor hash word * MULTIPLIER % 2 ^ 64)

-- the hash of the first words of 8 bytes, and of the length
unfoldable pub words_hash : ℕ → List ℕ → ℕ
words_hash zero name = length name
words_hash (suc n) name = stepped (words_hash n name) (number 8 name (8 * n))

-- the hash of a name of at most 128 bytes: of its words and of its last 8 bytes, or of its bytes where it has fewer
unfoldable pub short_hash : List ℕ → ℕ
short_hash name =
    if nat_lt (length name) 8 then hash_on BASIS name
    else stepped (words_hash (length name / 8) name) (number 8 name (length name - 8))

unfoldable pub hash : List ℕ → ℕ
hash name = if nat_le (length name) 128 then short_hash name else long_hash name

abbrev pub tail_with : ℕ → ℕ → ℕ
tail_with hash byte = if byte == 0 then BASIS else mixed hash byte

-- the hash of what stands before the first NUL, or of all where there is none
unfoldable pub tail_hash : List ℕ → ℕ
tail_hash [] = BASIS
tail_hash (byte ∷ rest) = tail_with (tail_hash rest) byte

-- hashes of what stands before the next NUL, each 64 bytes
pub record AreMarks (strings marks : List ℕ) : Type 0 where
  pub marked : (k : ℕ) → k < length marks → slice_index marks k ≡ tail_hash (drop (64 * k) strings)
