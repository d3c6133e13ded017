-- The winners of files are those of the definition.
use Rattle.std.proofs.Common.{◌≡◌, ℕ, List, length, map, IsPermutation, ap, subst, ◌∙◌, Some}
use Rattle.std.specs.List.{IsDistinct, filter_map}
use Rattle.std.specs.List.Sorted.{IsSortedBy}
use Rattle.std.specs.Ordering.{is_lt, nat_cmp}
use Rattle.std.specs.Cmp.Lexicographic.{slice_cmp}
use Rattle.std.specs.Str.{bytes_eq}
use Rattle.std.proofs.lemmas.List.{length-map}
use Rattle.command_line.specs.declared.command.Command.{Command}
use Rattle.mo_types.specs.Candidates.{least}
use Rattle.mo_types.specs.declared.loaded.LoadedFile.{LoadedFile}
use Rattle.symbol_winners.specs.Found.{AreNamed, found}
use Rattle.symbol_winners.specs.Winners.{AreLeast, AreWinners}
use Rattle.symbol_winners.specs.declared.best.Best.{Best}
use Rattle.symbol_winners.specs.declared.chosen.Chosen.{Chosen}
use Rattle.symbol_winners.specs.declared.found.FoundIn.{FoundIn}
use Rattle.symbol_winners.specs.declared.winner.Winner.{Winner}
use Rattle.symbol_winners.specs.inner.Best.{AreBests, HasBests, chosen_name, chosen_of, winner_chosen}
use Rattle.symbol_winners.specs.inner.Tables.{held}
use Rattle.symbol_winners.proofs.WinnerLemmas.{AreThose, each_winner, rising, table_chosen}

pub word_count : (files : List LoadedFile) (names : List (List ℕ)) (words : List ℕ) → AreLeast files names words → length words ≡ length names
word_count files names words are = ap length are ∙ length-map names (least files)

pub those : (files : List LoadedFile) (names : List (List ℕ)) (fs : List FoundIn) (table : List Best) (chosen : List Chosen) → AreNamed names files → held fs ≡ found files → AreBests files names fs table → IsPermutation (filter_map chosen_of table) chosen → AreThose files names fs chosen
those files names fs table chosen named is bests order = record {
  order = subst (λ (cs : List Chosen). IsPermutation cs chosen) (table_chosen files names fs table bests.are) order;
  named = named;
  held = is;
}

pub winners_are : (command : Command) (files : List LoadedFile) (names : List (List ℕ)) (fs : List FoundIn) (chosen : List Chosen) (list : List Winner) → AreThose files names fs chosen → IsDistinct bytes_eq names → IsSortedBy (λ (a : Chosen) (b : Chosen). is_lt (slice_cmp nat_cmp (chosen_name a) (chosen_name b))) chosen → map Some list ≡ map (winner_chosen command) chosen → AreWinners command files list
winners_are command files names fs chosen list are apart sorted is = record {
  rising = rising command files names fs chosen list are apart sorted is;
  each = each_winner command files names fs chosen list are is;
}

pub all_those : (files read : List LoadedFile) (names : List (List ℕ)) (table : List Best) (chosen : List Chosen) (has : HasBests files names (found read) table) → AreNamed names files → read ≡ files → IsPermutation (filter_map chosen_of table) chosen → AreThose files names has.fs chosen
all_those files read names table chosen has named e order = those files names has.fs table chosen named (has.held_is ∙ ap found e) has.bests order
