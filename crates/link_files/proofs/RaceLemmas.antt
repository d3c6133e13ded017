-- The words of the race of all names are the least ones.
use Rattle.std.proofs.Common.{◌≡◌, ℕ, List, [], ◌∷◌, length, replicate, Result, Ok, Err, ap, ◌∙◌, arith}
use Rattle.std.specs.Prelude.{IfOk}
use Rattle.mo_types.specs.Candidates.{no_word}
use Rattle.mo_types.specs.declared.loaded.LoadedFile.{LoadedFile}
use Rattle.name_ids.specs.Names.{IsNumbering}
use Rattle.race_core.specs.Run.{run}
use Rattle.name_offers.proofs.LeastLemmas.{least_from_none}
use Rattle.name_offers.specs.Offers.{bids_of}
use Rattle.symbol_winners.specs.Winners.{AreLeast}

-- the words of a race at whose start no name has one
raced : (files : List LoadedFile) (names : List (List ℕ)) (start words : List ℕ) → IsNumbering names → start ≡ replicate (length names) no_word → words ≡ run start (bids_of names files) → AreLeast files names words
raced files names start words numbering begins ends = ends ∙ ap (λ (s : List ℕ). run s (bids_of names files)) begins ∙ least_from_none files names numbering.distinct

-- of no names there are none
pub none_raced : (files : List LoadedFile) (names : List (List ℕ)) (words : List ℕ) → length names ≡ 0 → words ≡ [] → AreLeast files names words
none_raced files [] words none empty = empty
none_raced files (name ∷ names) words none empty = absurd (omega (arith, none))

pub raced_ok : {W E : Type 0} (items : W → List ℕ) (result : Result W E) (files : List LoadedFile) (names : List (List ℕ)) (start : List ℕ) → IsNumbering names → start ≡ replicate (length names) no_word
    → IfOk result (λ words. items words ≡ run start (bids_of names files)) → IfOk result (λ words. AreLeast files names (items words))
raced_ok items (Ok words) files names start numbering begins ends = raced files names start (items words) numbering begins ends
raced_ok items (Err fault) files names start numbering begins ends = tt
