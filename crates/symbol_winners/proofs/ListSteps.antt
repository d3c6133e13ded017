-- The winners, one by one.
use Rattle.std.proofs.Common.{◌≡◌, ℕ, zero, suc, ◌+◌, ◌<◌, ◌≤◌, List, [], ◌∷◌, ◌++◌, length, map, take, get_or, sym, ap, ◌∙◌, arith, Some}
use Rattle.std.specs.Prelude.{Option}
use Rattle.std.proofs.lemmas.List.{map-append, take_all, take_more}
use Rattle.command_line.specs.declared.command.Command.{Command}
use Rattle.symbol_winners.specs.declared.chosen.Chosen.{Chosen}
use Rattle.symbol_winners.specs.declared.winner.Winner.{Winner}
use Rattle.symbol_winners.specs.inner.Best.{AreChosen, IsCandidateOf, winner_chosen}
use Rattle.symbol_winners.specs.inner.Tables.{found_of}

-- the winners of the chosen ones before a place
pub record AreUpTo (command : Command) (chosen : List Chosen) (i : ℕ) (list : List Winner) : Type 0 where
  pub are : map Some list ≡ map (winner_chosen command) (take i chosen)

pub list_start : (command : Command) (chosen : List Chosen) (list : List Winner) → list ≡ [] → AreUpTo command chosen 0 list
list_start command chosen list none = record { are = ap (map Some) none }

pub list_step : (command : Command) (chosen : List Chosen) (i : ℕ) (list new : List Winner) (one d : Chosen) (winner : Winner) → AreUpTo command chosen i list → i < length chosen → one ≡ get_or chosen i d → Some winner ≡ winner_chosen command one → new ≡ list ++ winner ∷ [] → AreUpTo command chosen (i + 1) new
list_step command chosen i list new one d winner upto low is same more = record {
  are =
      ap (map Some) more ∙ map-append Some list (winner ∷ [])
      ∙ ap (λ (ys : List (Option Winner)). ys ++ Some winner ∷ []) upto.are
      ∙ ap (λ (y : Option Winner). map (winner_chosen command) (take i chosen) ++ y ∷ []) same
      ∙ sym (ap (map (winner_chosen command)) (take_more chosen i d low ∙ ap (λ (x : Chosen). take i chosen ++ x ∷ []) (sym is)) ∙ map-append (winner_chosen command) (take i chosen) (one ∷ []));
}

pub list_end : (command : Command) (chosen : List Chosen) (i : ℕ) (list : List Winner) → AreUpTo command chosen i list → length chosen ≤ i → map Some list ≡ map (winner_chosen command) chosen
list_end command chosen i list upto past = upto.are ∙ ap (map (winner_chosen command)) (take_all i chosen past)

pub chosen_at : (chosen : List Chosen) (i : ℕ) (one d : Chosen) → AreChosen chosen → i < length chosen → one ≡ get_or chosen i d → IsCandidateOf (found_of one.found)
chosen_at chosen i one d all low is = rw is (at chosen i all low)
  where
    at : (cs : List Chosen) (i : ℕ) → AreChosen cs → i < length cs → IsCandidateOf (found_of (get_or cs i d).found)
    at [] i all low = absurd (omega arith)
    at (c ∷ cs) zero all low = all.0
    at (c ∷ cs) (suc i) all low = at cs i all.1 (omega (arith, low))
