-- What fits a room of bytes that was taken at the start.
use Rattle.std.specs.Prelude.{ℕ, ◌+◌, ◌++◌, ◌&&◌, nat_lt, nat_le, List, [], ◌∷◌, length, sum_by, false, Option, None, Some, if◌then◌else◌}
use Rattle.mo_outside.specs.Written.{Written, at_last, with_more}

-- the bytes of all paths and contents
abbrev pub bytes_used : List Written → ℕ
bytes_used files = sum_by (λ file. length file.path + length file.bytes) files

-- the files and one more, where it is at most the second and its path fits the rest of the room
abbrev pub begun_within : ℕ → List ℕ → List Written → Option (List Written)
begun_within room path files =
    if nat_lt (length files) 2 && nat_le (bytes_used files + length path) room
    then Some (files ++ record { path = path; bytes = []; done = false } ∷ [])
    else None

-- the files with the piece at the end of the last one, where it fits the rest of the room
abbrev pub written_within : ℕ → List ℕ → List Written → Option (List Written)
written_within room piece files =
    if nat_le (bytes_used files + length piece) room then Some (at_last (with_more piece) files) else None

-- the lines and one more, where it fits the rest of the room
abbrev pub put_within : ℕ → List ℕ → List ℕ → Option (List ℕ)
put_within room line lines = if nat_le (length lines + length line) room then Some (lines ++ line) else None

-- bytes and the room that they may take
pub record Filled : Type 0 where
  pub bytes : List ℕ
  pub room : ℕ

-- files and the room that they may take
pub record FilledFiles : Type 0 where
  pub files : List Written
  pub room : ℕ
