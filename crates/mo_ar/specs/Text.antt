-- The texts in a member's header: padded with blanks, and numbers in decimal digits (ar(5)).
use Rattle.std.specs.Prelude.{ℕ, ◌+◌, ◌-◌, ◌*◌, ◌==◌, List, [], ◌∷◌, take, drop, Option, Some, None, if◌then◌else◌}
use Rattle.std.specs.Char.{is_ascii_digit}

-- some bytes from a place on
abbrev pub part : List ℕ → ℕ → ℕ → List ℕ
part bytes at size = take size (drop at bytes)

-- a byte before a text, which is dropped where it is the padding and nothing comes after it
abbrev pub ended : ℕ → ℕ → List ℕ → List ℕ
ended padding byte [] = if byte == padding then [] else byte ∷ []
ended padding byte (next ∷ rest) = byte ∷ next ∷ rest

-- a text without the padding at its end
unfoldable pub trimmed : ℕ → List ℕ → List ℕ
trimmed padding [] = []
trimmed padding (byte ∷ rest) = ended padding byte (trimmed padding rest)

-- the number whose first digits are read, with the digits of a text after them
unfoldable pub decimal_from : ℕ → List ℕ → Option ℕ
decimal_from n [] = Some n
decimal_from n (digit ∷ rest) = if is_ascii_digit digit then decimal_from (10 * n + (digit - 0x30)) rest else None

-- the number that a text spells, if it is one digit or more and nothing else
unfoldable pub decimal : List ℕ → Option ℕ
decimal [] = None
decimal (digit ∷ rest) = decimal_from 0 (digit ∷ rest)
