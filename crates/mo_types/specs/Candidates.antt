-- Candidates: the symbols that may define a name for all files (`nlist.h`: N_EXT, N_WEAK_DEF, common symbols). Each has
-- a word, and of the candidates of one name the one with the least word wins: the strongest, and of equal strength the
-- first by position, member and symbol.
use Rattle.std.specs.Prelude.{ℕ, ◌+◌, ◌-◌, ◌*◌, ◌^◌, ◌&&◌, Bool, true, false, not, min, List, map, filter, fold, Option, if◌then◌else◌}
use Rattle.std.specs.List.{enumerate_from, filter_map, flat_map}
use Rattle.std.specs.Option.{option_map_or}
use Rattle.std.specs.Str.{bytes_eq}
use Rattle.mo_types.specs.declared.key.FileId.{FileId}
use Rattle.mo_types.specs.declared.loaded.LoadedFile.{LoadedFile}
use Rattle.mo_types.specs.declared.object.Section.{Section}
use Rattle.mo_types.specs.declared.object.Symbol.{Symbol}
use Rattle.mo_types.specs.declared.object.SymbolKind.{SymbolKind}
use Rattle.mo_types.specs.declared.object.SymbolKind.TheVariants.{Common, Defined, Undefined}
use Rattle.mo_types.specs.RelocationRules.{section_numbered}
use Rattle.mo_types.specs.Rows.{when}
use Rattle.mo_types.specs.Whole.{is_dropped}

-- a name that another file is to define (`nlist.h`: N_UNDF)
abbrev pub is_undefined : SymbolKind → Bool
is_undefined Undefined = true
is_undefined _ = false

abbrev pub is_common : SymbolKind → Bool
is_common (Common align size) = true
is_common _ = false

-- a symbol that stands for a place of the image: a definition in a section that is linked, or a common symbol
abbrev pub has_place : List Section → SymbolKind → Bool
has_place sections (Defined section value) = option_map_or (λ s. not (is_dropped s)) (section_numbered sections section) false
has_place sections (Common align size) = true
has_place sections _ = false

unfoldable pub is_candidate : List Section → Symbol → Bool
is_candidate sections symbol = symbol.external && has_place sections symbol.kind

-- 2 for a common symbol, else 1 for a weak definition and 0 for a strong one
unfoldable pub strength : Symbol → ℕ
strength symbol = strength_of symbol.kind symbol.weak_def
  where
    strength_of : SymbolKind → Bool → ℕ
    strength_of (Common align size) weak = 2
    strength_of _ weak = if weak then 1 else 0

-- the word of a file's symbol: its strength, its file's position and member, and its index in the file
unfoldable pub word_of : FileId → ℕ → Symbol → ℕ
word_of file index symbol = strength symbol * 2 ^ 60 + file.position * 2 ^ 44 + file.member * 2 ^ 24 + index

-- the word of a name without a candidate
abbrev pub no_word : ℕ
no_word = 2 ^ 64 - 1

pub record Candidate : Type 0 where
  pub file : FileId
  pub index : ℕ
  pub symbol : Symbol

abbrev pub candidate_word : Candidate → ℕ
candidate_word candidate = word_of candidate.file candidate.index candidate.symbol

-- a file's symbol as a candidate, where it is one
unfoldable pub candidate_at : LoadedFile → ℕ × Symbol → Option Candidate
candidate_at file p = when (is_candidate file.object.sections p.1) (record { file = file.id; index = p.0; symbol = p.1 })

-- the candidates of a file, in the order of its symbols
unfoldable pub candidates_of : LoadedFile → List Candidate
candidates_of file = filter_map (candidate_at file) (enumerate_from 0 file.object.symbols)

-- the candidates of files, file by file
unfoldable pub candidates : List LoadedFile → List Candidate
candidates files = flat_map candidates_of files

-- those of a name
unfoldable pub candidates_for : List LoadedFile → List ℕ → List Candidate
candidates_for files name = filter (λ candidate. bytes_eq name candidate.symbol.name) (candidates files)

-- the least word of the candidates of a name
unfoldable pub least : List LoadedFile → List ℕ → ℕ
least files name = fold min no_word (map candidate_word (candidates_for files name))
