-- Atoms that are listed in the order of their places.
use Rattle.std.specs.Prelude.{◌+◌, ◌≤◌, List, length}
use Rattle.mo_types.specs.declared.loaded.LoadedFile.{LoadedFile}
use Rattle.patch.specs.declared.range.PlacedWork.{PlacedWork}
use Rattle.patch.specs.Range.{bytes_of}

-- the bytes of an atom end where those of another one begin, or before
abbrev pub StandsBefore : List LoadedFile → PlacedWork → PlacedWork → Type 0
StandsBefore files a b = a.at + length (bytes_of files a) ≤ b.at
