-- What the objects in memory keep their bytes in.
use Rattle.std.specs.Prelude.{ℕ, ◌≡◌, ◌≤◌, List, [], ◌∷◌, take, drop, slice_range, Option, Some, None}
use Rattle.mo_outside.specs.declared.asked.PathLog.{PathLog}
use Rattle.mo_outside.specs.declared.asked.PathLog.TheVariants as asked
use Rattle.mo_outside.specs.Written.{Written}
use Rattle.mo_outside.specs.declared.file_buffer.Begun.{Begun}
use Rattle.mo_outside.specs.declared.file_buffer.Begun.TheVariants.{Nothing, First, Second}

-- the files whose paths and contents stand one after the other
abbrev pub files_in : List ℕ → Begun → List Written
files_in bytes Nothing = []
files_in bytes (First file) =
    record { path = take file.path_end bytes; bytes = drop file.path_end bytes; done = file.done } ∷ []
files_in bytes (Second first end second) =
    record { path = take first.path_end bytes; bytes = slice_range bytes first.path_end end; done = first.done }
    ∷ record { path = slice_range bytes end second.path_end; bytes = drop second.path_end bytes; done = second.done }
    ∷ []

-- the ends stand in their order in so many bytes
abbrev pub IsWithin : ℕ → Begun → Type 0
IsWithin len Nothing = len ≡ 0
IsWithin len (First file) = file.path_end ≤ len
IsWithin len (Second first end second) = (first.path_end ≤ end) × (end ≤ second.path_end) × (second.path_end ≤ len)

-- the paths that were asked for, unless memory for one was refused
abbrev pub paths_in : PathLog → Option (List (List ℕ))
paths_in asked.Nothing = Some []
paths_in (asked.Paths paths) = Some paths
paths_in asked.Forgotten = None
