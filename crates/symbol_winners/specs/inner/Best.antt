-- How the code finds the winners.
use Rattle.std.specs.Prelude.{◌≡◌, ◌≢◌, refl, ℕ, ◌<◌, ◌==◌, Bool, true, max, List, map, fold, get_or, length, Option, Some, None, if◌then◌else◌}
use Rattle.std.specs.List.{AllByRecursion, find}
use Rattle.std.specs.Option.{option_map}
use Rattle.command_line.specs.declared.command.Command.{Command}
use Rattle.mo_types.specs.Candidates.{is_candidate, least}
use Rattle.mo_types.specs.Loaded.{IsWholeFile}
use Rattle.mo_types.specs.declared.loaded.LoadedFile.{LoadedFile}
use Rattle.mo_types.specs.declared.object.Symbol.{Symbol}
use Rattle.mo_types.specs.declared.object.SymbolKind.{SymbolKind}
use Rattle.symbol_winners.specs.Found.{FileCandidate}
use Rattle.symbol_winners.specs.Winners.{align_in, found_word, is_exported, size_in, winner_by}
use Rattle.symbol_winners.specs.declared.best.Best.{Best}
use Rattle.symbol_winners.specs.declared.chosen.Chosen.{Chosen}
use Rattle.symbol_winners.specs.declared.found.FoundIn.{FoundIn}
use Rattle.symbol_winners.specs.declared.winner.Winner.{Winner}
use Rattle.symbol_winners.specs.inner.Numbers.{AreNumbered}
use Rattle.symbol_winners.specs.inner.Tables.{found_of, held, table_of}

-- a candidate has the least word of its name
abbrev pub candidate_wins : List LoadedFile → FoundIn → Bool
candidate_wins files f = found_word (found_of f) == least files f.symbol.now.name

abbrev pub or_this : Option FoundIn → FoundIn → Bool → Option FoundIn
or_this (Some winner) candidate wins = Some winner
or_this None candidate wins = if wins then Some candidate else None

abbrev pub greatest_of : (SymbolKind → ℕ) → List FoundIn → ℕ
greatest_of part fs = fold max 0 (map (λ f. part f.symbol.now.kind) fs)

-- what is held of the candidates of a name
unfoldable pub best_of : List LoadedFile → List FoundIn → Best
best_of files fs = record {
  winner = find (candidate_wins files) fs;
  size = greatest_of size_in fs;
  align = greatest_of align_in fs;
}

abbrev pub nothing : Best
nothing = record { winner = None; size = 0; align = 0 }

abbrev pub held_name : FoundIn → List ℕ
held_name f = f.symbol.now.name

-- for each name what is held of its candidates among some
pub record AreBests (files : List LoadedFile) (names : List (List ℕ)) (fs : List FoundIn) (table : List Best) : Type 0 where
  pub are : table ≡ table_of (best_of files) held_name names fs

-- for each name what is held of its candidates, of some that have the numbers of their names
pub record HasBests (files : List LoadedFile) (names : List (List ℕ)) (all : List FileCandidate) (table : List Best) : Type 0 where
  pub fs : List FoundIn
  pub held_is : held fs ≡ all
  pub numbered : AreNumbered names fs
  pub bests : AreBests files names fs table

-- a candidate stands at its index in a whole file
pub record IsCandidateOf (f : FileCandidate) : Type 0 where
  pub whole : IsWholeFile f.file
  pub index : f.index < length f.file.object.symbols
  pub there : (d : Symbol) → get_or f.file.object.symbols f.index d ≡ f.symbol
  pub candidate : is_candidate f.file.object.sections f.symbol ≡ true

-- all of them do
abbrev pub AreCandidates : List FoundIn → Type 0
AreCandidates fs = AllByRecursion (λ f. IsCandidateOf (found_of f)) fs

-- a winner with what is known of the common symbols of its name
abbrev pub chosen_of : Best → Option Chosen
chosen_of best = option_map (λ f. record { found = f; size = best.size; align = best.align }) best.winner

-- that of what has one
unfoldable pub the_chosen : (chosen : Option Chosen) → chosen ≢ None → Chosen
the_chosen None has = absurd (has refl)
the_chosen (Some chosen) has = chosen

abbrev pub chosen_name : Chosen → List ℕ
chosen_name c = c.found.symbol.now.name

-- the winner that it is to be
abbrev pub winner_chosen : Command → Chosen → Option Winner
winner_chosen command c = winner_by (is_exported command c.found.symbol.now) c.size c.align (found_of c.found)

-- each stands at its index in a whole file
abbrev pub AreChosen : List Chosen → Type 0
AreChosen chosen = AllByRecursion (λ c. IsCandidateOf (found_of c.found)) chosen
