-- The candidates of files, each with the file that has it.
use Rattle.std.specs.Prelude.{ℕ, List, filter, All, Contains, Option}
use Rattle.std.specs.List.{enumerate_from, filter_map, flat_map}
use Rattle.std.specs.Str.{bytes_eq}
use Rattle.mo_types.specs.Candidates.{Candidate, candidates, is_candidate}
use Rattle.mo_types.specs.Rows.{when}
use Rattle.mo_types.specs.declared.loaded.LoadedFile.{LoadedFile}
use Rattle.mo_types.specs.declared.object.Symbol.{Symbol}

pub record FileCandidate : Type 0 where
  pub file : LoadedFile
  pub index : ℕ
  pub symbol : Symbol

-- the same without its file
abbrev pub candidate_of : FileCandidate → Candidate
candidate_of found = record { file = found.file.id; index = found.index; symbol = found.symbol }

unfoldable pub found_at : LoadedFile → ℕ × Symbol → Option FileCandidate
found_at file p = when (is_candidate file.object.sections p.1) (record { file = file; index = p.0; symbol = p.1 })

-- those of a file, in the order of its symbols
unfoldable pub found_in : LoadedFile → List FileCandidate
found_in file = filter_map (found_at file) (enumerate_from 0 file.object.symbols)

-- those of files, file by file
unfoldable pub found : List LoadedFile → List FileCandidate
found files = flat_map found_in files

-- those of a name
unfoldable pub found_for : List LoadedFile → List ℕ → List FileCandidate
found_for files name = filter (λ f. bytes_eq name f.symbol.name) (found files)

-- each candidate's name is among the names
abbrev pub AreNamed : List (List ℕ) → List LoadedFile → Type 0
AreNamed names files = All (λ candidate. Contains names candidate.symbol.name) (candidates files)
