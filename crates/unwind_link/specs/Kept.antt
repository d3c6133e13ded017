-- The unwind entries of the atoms that are kept (`mach-o/compact_unwind_encoding.h`).
use Rattle.std.specs.Prelude.{ℕ, List, map}
use Rattle.std.specs.List.{enumerate_from, filter, flat_map}
use Rattle.mark_core.specs.Kept.{has}
use Rattle.mo_types.specs.declared.key.AtomKey.{AtomKey}
use Rattle.mo_types.specs.declared.loaded.LoadedFile.{LoadedFile}
use Rattle.mo_types.specs.declared.unwind.Unwind.{Unwind}
use Rattle.unwind_link.specs.declared.kept.KeptUnwind.{KeptUnwind}

-- an entry of the file at a place
abbrev pub kept_as : ℕ → Unwind → KeptUnwind
kept_as file unwind = record { file = file; unwind = unwind }

-- the entries of the file at a place whose atoms are kept, as the file lists them
unfoldable pub kept_in : List AtomKey → ℕ × LoadedFile → List KeptUnwind
kept_in keys p = map (kept_as p.0) (filter (λ unwind. has keys unwind.atom) p.1.unwinds)

-- those of all files, file by file
unfoldable pub kept_unwinds : List AtomKey → List LoadedFile → List KeptUnwind
kept_unwinds keys files = flat_map (kept_in keys) (enumerate_from 0 files)
