-- The fields of a structure whose numbers have their highest byte first (`cs_blobs.h`: network byte order).
use Rattle.std.specs.Prelude.{ℕ, List, [], ◌∷◌, ◌++◌, drop}
use Rattle.byteorder.specs.Endian.{big_number, big_bytes}

-- the number of w bytes that begins at a place
unfoldable pub big_number_at : ℕ → List ℕ → ℕ → ℕ
big_number_at w bytes at = big_number w (drop at bytes)

-- the bytes of a number, its lowest w bytes, the highest of them first
unfoldable pub big_number_bytes : ℕ → ℕ → List ℕ
big_number_bytes w n = big_bytes w n

-- a number of some bytes
pub data BigField : Type 0 where
  BigNumber : (width value : ℕ) → BigField

-- the bytes of the fields, one after the other
abbrev pub big_spelled : List BigField → List ℕ
big_spelled [] = []
big_spelled (BigNumber width value ∷ fs) = big_number_bytes width value ++ big_spelled fs
