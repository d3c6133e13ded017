-- The places of names, by their numbers.
use Rattle.std.proofs.Common.{◌≡◌, ◌≢◌, ℕ, ◌<◌, ◌≤◌, Bool, true, false, List, [], length, get_or, position, replicate, refl, sym, ap, subst, ◌∙◌, arith, Some, None}
use Rattle.std.specs.Prelude.{Option, slice_get, slice_set, if◌then◌else◌}
use Rattle.std.specs.List.{IsDistinct, position_or_len}
use Rattle.std.specs.Option.{option_and_then}
use Rattle.std.specs.Str.{bytes_eq}
use Rattle.std.proofs.lemmas.List.{get_or-replicate, get_or-set_other, get_or-set_same}
use Rattle.std.proofs.lemmas.List.Quantifiers.{position-Some}
use Rattle.std.proofs.lemmas.List.Sums.{position_or_len_is}
use Rattle.std.proofs.lemmas.Map.Keys.{apart_from_distinct}
use Rattle.std.proofs.lemmas.Grind.{common_steps}
use Rattle.std.proofs.lemmas.Option.{get_or_from_slice_get, slice_get_within}
use Rattle.std.proofs.lemmas.Slice.Eq.{bytes_eq-Decides}
use Rattle.mo_types.specs.declared.object.Symbol.{Symbol}
use Rattle.name_ids.specs.Names.{IsNumbering, number_of}
use Rattle.symbol_winners.specs.Winners.{winner_named}
use Rattle.symbol_winners.specs.declared.name_index.NameIndex.{NameIndex}
use Rattle.literal_merge.specs.declared.representative.Representative.{Representative}
use Rattle.symbol_winners.specs.declared.winner.Winner.{Winner}
use Rattle.symbol_winners.specs.inner.Index.{IsIndexed, known, place_of_name}
use Rattle.symbol_winners.proofs.NumberedLemmas.{named_at}

other_name : (a b : List ℕ) → bytes_eq b a ≡ false → bytes_eq a b ≡ false
other_name a b apart = by (bytes_eq a b) refl
  where
    by : (e : Bool) → bytes_eq a b ≡ e → bytes_eq a b ≡ false
    by false is = is
    by true is = absurd (let same : bytes_eq b a ≡ true = (bytes_eq-Decides b a).1 (sym ((bytes_eq-Decides a b).0 is)) in let no : true ≡ false = sym same ∙ apart in cc)

-- a name's number is its place among the names
pub own_number : (names : List (List ℕ)) (id : ℕ) (name : List ℕ) → IsDistinct bytes_eq names → slice_get names id ≡ Some name → position (bytes_eq name) names ≡ Some id
own_number names id name distinct at =
    let low : id < length names = slice_get_within names id name at in
    let same : get_or names id [] ≡ name = get_or_from_slice_get names id name [] at in
    let before : (k : ℕ) → k < id → bytes_eq name (get_or names k []) ≡ false = (λ k under. other_name name (get_or names k []) (subst (λ (n : List ℕ). bytes_eq (get_or names k []) n ≡ false) same (apart_from_distinct bytes_eq names k id [] distinct under low))) in
    let first : position_or_len (bytes_eq name) names ≡ id = position_or_len_is (bytes_eq name) names id [] (omega (arith, low)) before (λ within. (bytes_eq-Decides name (get_or names id [])).1 (sym same)) in
    grind (arith, common_steps, first, low)

pub nothing : (names : List (List ℕ)) (places : List (Option ℕ)) (n : ℕ) (none : Option ℕ) (name : List ℕ) → n ≡ length names → none ≡ None → places ≡ replicate n none → place_of_name places names name ≡ None
unfolding place_of_name
nothing names places n none name many is made = by (position (bytes_eq name) names) refl
  where
    by : (at : Option ℕ) → position (bytes_eq name) names ≡ at → place_of_name places names name ≡ None
    by None e = rw e refl
    by (Some id) e =
        let low : id < length names = (position-Some (bytes_eq name) names id [] e).0 in
        rw e (ap (λ (ps : List (Option ℕ)). get_or ps id None) made ∙ get_or-replicate n id none None (omega (arith, low, many)) ∙ is)

pub numbered : (names : List (List ℕ)) (places : List (Option ℕ)) (id : ℕ) (name : List ℕ) → IsNumbering names → slice_get names id ≡ Some name → get_or places id None ≡ place_of_name places names name
unfolding place_of_name
numbered names places id name numbering at = rw (own_number names id name numbering.distinct at) refl

pub symbol_numbered : (names : List (List ℕ)) (places : List (Option ℕ)) (number : ℕ) (symbol : Symbol) → IsNumbering names → number ≡ number_of names symbol → number < length names → get_or places number None ≡ place_of_name places names symbol.name
symbol_numbered names places number symbol numbering is low = numbered names places number symbol.name numbering (named_at names symbol number numbering.few is low).1

-- a number that no name has is that of a symbol without a place
pub symbol_past : (names : List (List ℕ)) (places : List (Option ℕ)) (number : ℕ) (symbol : Symbol) → symbol.external ≡ true → number ≡ number_of names symbol → length names ≤ number → None ≡ place_of_name places names symbol.name
unfolding number_of place_of_name
symbol_past names places number symbol external is past = by (position (bytes_eq symbol.name) names) refl
  where
    by : (at : Option ℕ) → position (bytes_eq symbol.name) names ≡ at → None ≡ place_of_name places names symbol.name
    by None e = rw e refl
    by (Some id) e = absurd (let here : number ≡ id = is ∙ rw (external, e) refl in let low : id < length names = (position-Some (bytes_eq symbol.name) names id [] e).0 in omega (arith, here, low, past))

pub put_place : (names : List (List ℕ)) (old new : List (Option ℕ)) (id place : ℕ) (name other : List ℕ) → IsNumbering names → slice_get names id ≡ Some name → id < length old → new ≡ slice_set old id (Some place) → place_of_name new names other ≡ (if bytes_eq name other then Some place else place_of_name old names other)
unfolding place_of_name
put_place names old new id place name other numbering at low set = by (bytes_eq name other) refl
  where
    by : (b : Bool) → bytes_eq name other ≡ b → place_of_name new names other ≡ (if bytes_eq name other then Some place else place_of_name old names other)
    by true same =
        let here : position (bytes_eq other) names ≡ Some id = subst (λ (n : List ℕ). position (bytes_eq n) names ≡ Some id) ((bytes_eq-Decides name other).0 same) (own_number names id name numbering.distinct at) in
        rw (here, same) (ap (λ (ps : List (Option ℕ)). get_or ps id None) set ∙ get_or-set_same old id (Some place) None low)
    by false apart = there (position (bytes_eq other) names) refl
      where
        there : (p : Option ℕ) → position (bytes_eq other) names ≡ p → place_of_name new names other ≡ (if bytes_eq name other then Some place else place_of_name old names other)
        there None e = rw (e, apart) refl
        there (Some k) e =
            let found : bytes_eq other (get_or names k []) ≡ true = (position-Some (bytes_eq other) names k [] e).1 in
            let away : k ≢ id = (λ same.
            let one : other ≡ name = (bytes_eq-Decides other (get_or names k [])).0 found ∙ ap (λ (n : ℕ). get_or names n []) same ∙ get_or_from_slice_get names id name [] at in
            let yes : bytes_eq name other ≡ true = (bytes_eq-Decides name other).1 (sym one) in
            let no : true ≡ false = sym yes ∙ apart in cc) in
            rw (e, apart) (ap (λ (ps : List (Option ℕ)). get_or ps k None) set ∙ get_or-set_other old id k (Some place) None away)

-- what an index of some winners finds under a number
pub winner_there : (winners : List Winner) (literals : List Representative) (index : NameIndex) (name : List ℕ) (place : Option ℕ) → IsIndexed winners literals index → place ≡ known index name → option_and_then (slice_get winners) place ≡ winner_named winners name
winner_there winners literals index name place is at = ap (option_and_then (slice_get winners)) at ∙ is.leads name
