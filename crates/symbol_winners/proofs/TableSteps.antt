-- What is held of the candidates of each name, candidate by candidate.
use Rattle.std.proofs.Common.{◌≡◌, ℕ, suc, ◌<◌, Bool, true, false, List, [], ◌∷◌, length, map, take, replicate, get_or, position, refl, sym, ap, ◌∙◌, arith, Some}
use Rattle.std.specs.List.{position_or_len}
use Rattle.std.specs.Str.{bytes_eq}
use Rattle.std.proofs.lemmas.Slice.Eq.{bytes_eq-Decides}
use Rattle.mo_types.specs.Candidates.{least}
use Rattle.mo_types.specs.declared.loaded.LoadedFile.{LoadedFile}
use Rattle.symbol_winners.specs.Winners.{AreLeast}
use Rattle.symbol_winners.specs.declared.best.Best.{Best}
use Rattle.symbol_winners.specs.declared.found.FoundIn.{FoundIn}
use Rattle.symbol_winners.specs.inner.Best.{AreBests, best_of, held_name, nothing}
use Rattle.symbol_winners.specs.inner.Tables.{table_of}
use Rattle.symbol_winners.proofs.BestLemmas.{none_best}
use Rattle.symbol_winners.proofs.TableLemmas.{some_position}

word_of_name : (f : List ℕ → ℕ) (name : List ℕ) (names : List (List ℕ)) (d : ℕ) → position_or_len (bytes_eq name) names < length names → get_or (map f names) (position_or_len (bytes_eq name) names) d ≡ f name
word_of_name f name [] d low = absurd (omega arith)
word_of_name f name (n ∷ names) d low = by (λ l. word_of_name f name names d l) (bytes_eq name n) refl
  where
    by : (position_or_len (bytes_eq name) names < length names → get_or (map f names) (position_or_len (bytes_eq name) names) d ≡ f name) → (b : Bool) → bytes_eq name n ≡ b → get_or (map f (n ∷ names)) (position_or_len (bytes_eq name) (n ∷ names)) d ≡ f name
    by later true here = rw here (ap f (sym ((bytes_eq-Decides name n).0 here)))
    by later false away =
        let under : position_or_len (bytes_eq name) names < length names = (let w : position_or_len (bytes_eq name) (n ∷ names) < length (n ∷ names) = low in let w' = rw away at w in omega (arith, w')) in
        let at : position_or_len (bytes_eq name) (n ∷ names) ≡ suc (position_or_len (bytes_eq name) names) = rw away (omega arith) in
        rw at (later under)

-- the word of the number of a name is the least one of its candidates
pub word_at : (files : List LoadedFile) (names : List (List ℕ)) (words : List ℕ) (name : List ℕ) (id d : ℕ) → AreLeast files names words → position (bytes_eq name) names ≡ Some id → get_or words id d ≡ least files name
word_at files names words name id d are at =
    let p = some_position (bytes_eq name) names id at in
    rw (are, sym p.0) (word_of_name (least files) name names d p.1)

none_yet : (files : List LoadedFile) (names : List (List ℕ)) → replicate (length names) nothing ≡ table_of (best_of files) held_name names []
unfolding table_of
none_yet files [] = refl
none_yet files (name ∷ names) = rw (sym (none_best files)) (ap (λ (bs : List Best). nothing ∷ bs) (none_yet files names))

pub bests_start : (files : List LoadedFile) (names : List (List ℕ)) (table : List Best) (fs : List FoundIn) (n : ℕ) (none : Best) → none ≡ nothing → n ≡ length names → table ≡ replicate n none → AreBests files names (take 0 fs) table
bests_start files names table fs n none is count made = record { are = made ∙ ap (λ k. replicate k none) count ∙ ap (replicate (length names)) is ∙ none_yet files names }
