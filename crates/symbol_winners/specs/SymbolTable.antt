-- The symbol table of a link: the winners, what stands for each literal, and how names are referred to.
use Rattle.std.specs.Prelude.{ℕ, ◌≡◌, ◌&&◌, Bool, not, List}
use Rattle.std.specs.List.{list_any}
use Rattle.std.specs.Str.{bytes_eq}
use Rattle.command_line.specs.declared.command.Command.{Command}
use Rattle.mo_types.specs.Candidates.{is_undefined}
use Rattle.mo_types.specs.declared.loaded.LoadedFile.{LoadedFile}
use Rattle.mo_types.specs.declared.object.Symbol.{Symbol}
use Rattle.literal_merge.specs.Representatives.{representatives_of}
use Rattle.symbol_winners.specs.Winners.{AreWinners, lists}
use Rattle.literal_merge.specs.declared.representative.Representative.{Representative}
use Rattle.symbol_winners.specs.declared.winner.Winner.{Winner}

-- a symbol refers to its name, and says that it may be missing (`nlist.h`: N_WEAK_REF), or doesn't say so
abbrev pub refers_weakly : Symbol → Bool
refers_weakly symbol = is_undefined symbol.kind && symbol.weak_ref

abbrev pub refers_strongly : Symbol → Bool
refers_strongly symbol = is_undefined symbol.kind && not symbol.weak_ref

abbrev pub is_weak_to : List ℕ → Symbol → Bool
is_weak_to name symbol = refers_weakly symbol && bytes_eq name symbol.name

abbrev pub is_strong_to : List ℕ → Symbol → Bool
is_strong_to name symbol = refers_strongly symbol && bytes_eq name symbol.name

-- some symbol of files passes the test
unfoldable pub any_symbol : (Symbol → Bool) → List LoadedFile → Bool
any_symbol test files = list_any (λ file. list_any test file.object.symbols) files

-- some file refers to the name, and each that does says that it may be missing
unfoldable pub is_weak : List LoadedFile → List ℕ → Bool
is_weak files name = any_symbol (is_weak_to name) files && not (any_symbol (is_strong_to name) files)

-- the winners, what stands for each literal, the names that may be missing, those that are looked up in all images, and all
-- names by their numbers
pub record SymbolTable : Type 0 where
  pub winners : List Winner
  pub literals : List Representative
  pub weak : List (List ℕ)
  pub flats : List (List ℕ)
  pub names : List (List ℕ)

-- it is that of a command and files
pub record IsSymbolTable (command : Command) (files : List LoadedFile) (symbols : SymbolTable) : Type 0 where
  pub winners : AreWinners command files symbols.winners
  pub literals : symbols.literals ≡ representatives_of files
  pub weak : (name : List ℕ) → lists symbols.weak name ≡ is_weak files name
  pub flats : (name : List ℕ) → lists symbols.flats name ≡ lists command.flats name
