-- Strings that end in NUL (`nlist.h`: n_strx; `ranlib.h`: ran_strx).
use Rattle.std.specs.Prelude.{ℕ, List, take, drop, Option}
use Rattle.std.specs.Option.{option_map}
use Rattle.memchr.specs.Find.{is_byte, places, first_of}

-- the place of the first NUL
unfoldable pub first_nul : List ℕ → Option ℕ
first_nul bytes = first_of (places (is_byte 0) bytes)

-- the string that begins at a place and ends before a NUL
unfoldable pub string_at : List ℕ → ℕ → Option (List ℕ)
string_at strings at = option_map (λ end. take end (drop at strings)) (first_nul (drop at strings))
