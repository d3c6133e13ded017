-- The words of a race are the least ones of the candidates.
use Rattle.std.proofs.Common.{◌≡◌, ℕ, zero, suc, ◌+◌, ◌<◌, ◌≤◌, ◌==◌, Bool, true, false, min, fold, nat_lt, List, [], ◌∷◌, ◌++◌, length, map, filter, take, drop, get_or, slice_get, position, replicate, All, refl, sym, ap, subst, ◌∙◌, arith, Some, None}
use Rattle.std.specs.Prelude.{Option}
use Rattle.std.specs.List.{AllByRecursion, IsDistinct, cons_option, enumerate_from, filter_map, position_or_len}
use Rattle.std.specs.Option.{option_map}
use Rattle.std.specs.Str.{bytes_eq}
use Rattle.std.proofs.lemmas.Bool.{eq-eqb, eqb-true, lt-ltb}
use Rattle.std.proofs.lemmas.List.{drop_all, length-map, take_all, take_more}
use Rattle.std.proofs.lemmas.Slice.Eq.{bytes_eq-Decides}
use Rattle.mo_types.specs.Candidates.{Candidate, candidate_word, candidates_for, least, no_word}
use Rattle.mo_types.specs.declared.loaded.LoadedFile.{LoadedFile}
use Rattle.name_ids.proofs.Once.{stands}
use Rattle.race_core.specs.Run.{bids_of, least_word, run, words_for}
use Rattle.race_core.specs.declared.Offer.{Offer}
use Rattle.symbol_winners.specs.Found.{candidate_of, found}
use Rattle.symbol_winners.specs.Winners.{AreLeast, found_word}
use Rattle.symbol_winners.specs.declared.found.FoundIn.{FoundIn}
use Rattle.symbol_winners.specs.inner.Best.{held_name}
use Rattle.symbol_winners.specs.inner.Tables.{found_of, held}
use Rattle.symbol_winners.specs.inner.Words.{offer_by, offer_of}
use Rattle.symbol_winners.proofs.DuplicateLemmas.{same_all}
use Rattle.symbol_winners.proofs.TableLemmas.{no_position, other_way, some_position}
use Rattle.literal_merge.proofs.AddingLemmas.{append_none}
use Rattle.symbol_winners.proofs.ChosenLemmas.{filter_map_more, filter_map_pass}

not_true : (b : Bool) → (b ≡ true → ⊥) → b ≡ false
not_true true never = absurd (never refl)
not_true false never = refl

apart_here : (names : List (List ℕ)) (k : ℕ) (name other : List ℕ) → slice_get names k ≡ Some name → AllByRecursion (λ n. bytes_eq other n ≡ false) names → bytes_eq name other ≡ false
apart_here [] k name other is all = cc
apart_here (n ∷ names) zero name other is all = let same : n ≡ name = (let e : Some n ≡ Some name = is in cc) in other_way other name (subst (λ (x : List ℕ). bytes_eq other x ≡ false) same all.0)
apart_here (n ∷ names) (suc k) name other is all = apart_here names k name other is all.1

numbered_at : (names : List (List ℕ)) (k : ℕ) (name : List ℕ) → IsDistinct bytes_eq names → slice_get names k ≡ Some name → position (bytes_eq name) names ≡ Some k
numbered_at names k name apart is =
    let p : (position_or_len (bytes_eq name) names ≡ k) × (k < length names) = stands names k name apart is in
    let low : nat_lt k (length names) ≡ true = lt-ltb k (length names) p.1 in
    rw (p.0, low) refl

there : (names : List (List ℕ)) (id : ℕ) (name : List ℕ) → position (bytes_eq name) names ≡ Some id → slice_get names id ≡ Some name
there names id name at =
    let p : (position_or_len (bytes_eq name) names ≡ id) × (position_or_len (bytes_eq name) names < length names) = some_position (bytes_eq name) names id at in
    rw (sym p.0) (found_there names p.1)
  where
    found_there : (ns : List (List ℕ)) → position_or_len (bytes_eq name) ns < length ns → slice_get ns (position_or_len (bytes_eq name) ns) ≡ Some name
    found_there [] low = absurd (omega arith)
    found_there (n ∷ ns) low = by (found_there ns) (bytes_eq name n) refl
      where
        by : (position_or_len (bytes_eq name) ns < length ns → slice_get ns (position_or_len (bytes_eq name) ns) ≡ Some name) → (b : Bool) → bytes_eq name n ≡ b → slice_get (n ∷ ns) (position_or_len (bytes_eq name) (n ∷ ns)) ≡ Some name
        by later true here = rw here (ap Some (sym ((bytes_eq-Decides name n).0 here)))
        by later false away =
            let under : position_or_len (bytes_eq name) ns < length ns = (let w : position_or_len (bytes_eq name) (n ∷ ns) < length (n ∷ ns) = low in let w' = rw away at w in omega (arith, w')) in
            let at : position_or_len (bytes_eq name) (n ∷ ns) ≡ suc (position_or_len (bytes_eq name) ns) = rw away (omega arith) in
            rw at (later under)

-- the words that are offered for a number are those of its name's candidates
words_same : (names : List (List ℕ)) (k : ℕ) (name : List ℕ) (fs : List FoundIn) → IsDistinct bytes_eq names → slice_get names k ≡ Some name → words_for k (bids_of (filter_map (offer_of names) fs)) ≡ map candidate_word (filter (λ (c : Candidate). bytes_eq name c.symbol.name) (map candidate_of (held fs)))
unfolding offer_of
words_same names k name [] apart is = refl
words_same names k name (f ∷ fs) apart is = by (words_same names k name fs apart is) (position (bytes_eq (held_name f)) names) refl
  where
    numbered_by : (id : ℕ) → position (bytes_eq (held_name f)) names ≡ Some id → words_for k (bids_of (filter_map (offer_of names) fs)) ≡ map candidate_word (filter (λ (c : Candidate). bytes_eq name c.symbol.name) (map candidate_of (held fs))) → (b : Bool) → (id == k) ≡ b → words_for k (bids_of (filter_map (offer_of names) (f ∷ fs))) ≡ map candidate_word (filter (λ (c : Candidate). bytes_eq name c.symbol.name) (map candidate_of (held (f ∷ fs))))
    numbered_by id at later true e =
        let same_id : id ≡ k = eqb-true id k e in
        let here : Some (held_name f) ≡ Some name = sym (there names id (held_name f) at) ∙ ap (slice_get names) same_id ∙ is in
        let same : name ≡ held_name f = cc in
        let hit : bytes_eq name (held_name f) ≡ true = (bytes_eq-Decides name (held_name f)).1 same in
        rw (at, e, hit) (ap (λ (ws : List ℕ). found_word (found_of f) ∷ ws) later)
    numbered_by id at later false e =
        let miss : bytes_eq name (held_name f) ≡ false = not_true (bytes_eq name (held_name f)) (λ hit.
        let same : name ≡ held_name f = (bytes_eq-Decides name (held_name f)).0 hit in
        let two : Some k ≡ Some id = sym (numbered_at names k name apart is) ∙ ap (λ (n : List ℕ). position (bytes_eq n) names) same ∙ at in
        let three : id ≡ k = cc in
        let four : true ≡ false = sym (eq-eqb id k three) ∙ e in cc) in
        rw (at, e, miss) later

    by : words_for k (bids_of (filter_map (offer_of names) fs)) ≡ map candidate_word (filter (λ (c : Candidate). bytes_eq name c.symbol.name) (map candidate_of (held fs))) → (o : Option ℕ) → position (bytes_eq (held_name f)) names ≡ o → words_for k (bids_of (filter_map (offer_of names) (f ∷ fs))) ≡ map candidate_word (filter (λ (c : Candidate). bytes_eq name c.symbol.name) (map candidate_of (held (f ∷ fs))))
    by later None at = let miss : bytes_eq name (held_name f) ≡ false = apart_here names k name (held_name f) is (no_position (bytes_eq (held_name f)) names at) in rw (at, miss) later
    by later (Some id) at = numbered_by id at later (id == k) refl

each_number : {B : Type 0} (F : ℕ × ℕ → B) (L : List ℕ → B) (rest : List (List ℕ)) (i w : ℕ) → ((j : ℕ) (name : List ℕ) → slice_get rest j ≡ Some name → F (i + j, w) ≡ L name) → map F (enumerate_from i (replicate (length rest) w)) ≡ map L rest
each_number F L [] i w same = refl
each_number F L (name ∷ rest) i w same =
    let first : F (i, w) ≡ L name = (let e : i + 0 ≡ i = omega arith in subst (λ (k : ℕ). F (k, w) ≡ L name) e (same 0 name refl)) in
    let later : map F (enumerate_from (i + 1) (replicate (length rest) w)) ≡ map L rest =
    each_number F L rest (i + 1) w (λ j n is. (let e : i + suc j ≡ i + 1 + j = omega arith in subst (λ (k : ℕ). F (k, w) ≡ L n) e (same (suc j) n is))) in
    rw (first, later) refl

pub words_are : (files : List LoadedFile) (names : List (List ℕ)) (fs : List FoundIn) (start words : List ℕ) (offers : List Offer) → IsDistinct bytes_eq names → held fs ≡ found files → offers ≡ filter_map (offer_of names) fs → start ≡ replicate (length names) no_word → words ≡ run start (bids_of offers) → AreLeast files names words
unfolding run least_word least candidates_for
words_are files names fs start words offers apart is made begun ran =
    ran ∙ ap (λ (ws : List ℕ). run ws (bids_of offers)) begun
    ∙ each_number (λ p. fold min p.1 (words_for p.0 (bids_of offers))) (least files) names 0 no_word
    (λ j name at.
    let e : 0 + j ≡ j = omega arith in
    ap (fold min no_word) (ap (λ (k : ℕ). words_for k (bids_of offers)) e ∙ ap (λ (os : List Offer). words_for j (bids_of os)) made ∙ words_same names j name fs apart at
    ∙ ap (λ (cs : List Candidate). map candidate_word (filter (λ (c : Candidate). bytes_eq name c.symbol.name) cs)) (ap (map candidate_of) is ∙ sym (same_all files))))

-- ---- the offers, one by one

pub offers_start : (names : List (List ℕ)) (fs : List FoundIn) (offers : List Offer) → offers ≡ [] → offers ≡ filter_map (offer_of names) (take 0 fs)
offers_start names fs offers none = none

pub offers_add : (names : List (List ℕ)) (fs : List FoundIn) (i : ℕ) (f d : FoundIn) (offers new : List Offer) (offer : Offer) → i < length fs → f ≡ get_or fs i d → offers ≡ filter_map (offer_of names) (take i fs) → offer_of names f ≡ Some offer → new ≡ offers ++ offer ∷ [] → new ≡ filter_map (offer_of names) (take (i + 1) fs)
offers_add names fs i f d offers new offer low is before one more =
    more ∙ ap (λ (os : List Offer). os ++ offer ∷ []) before
    ∙ sym (ap (filter_map (offer_of names)) (take_more fs i d low ∙ ap (λ (x : FoundIn). take i fs ++ x ∷ []) (sym is)) ∙ filter_map_more (offer_of names) (take i fs) f offer one)

pub offers_pass : (names : List (List ℕ)) (fs : List FoundIn) (i : ℕ) (f d : FoundIn) (offers : List Offer) → i < length fs → f ≡ get_or fs i d → offers ≡ filter_map (offer_of names) (take i fs) → offer_of names f ≡ None → offers ≡ filter_map (offer_of names) (take (i + 1) fs)
offers_pass names fs i f d offers low is before none =
    before ∙ sym (ap (filter_map (offer_of names)) (take_more fs i d low ∙ ap (λ (x : FoundIn). take i fs ++ x ∷ []) (sym is)) ∙ filter_map_pass (offer_of names) (take i fs) f none)

pub offers_end : (names : List (List ℕ)) (fs : List FoundIn) (i : ℕ) (offers : List Offer) → length fs ≤ i → offers ≡ filter_map (offer_of names) (take i fs) → offers ≡ filter_map (offer_of names) fs
offers_end names fs i offers past before = before ∙ ap (filter_map (offer_of names)) (take_all i fs past)

pub offer_made : (names : List (List ℕ)) (f : FoundIn) (o : Option ℕ) → o ≡ position (bytes_eq (held_name f)) names → offer_of names f ≡ option_map (offer_by f) o
unfolding offer_of
offer_made names f o at = ap (option_map (offer_by f)) (sym at)

within : (names : List (List ℕ)) (fs : List FoundIn) (k : ℕ) (d : Offer) → k < length (filter_map (offer_of names) fs) → (get_or (filter_map (offer_of names) fs) k d).name < length names
unfolding offer_of
within names [] k d low = absurd (omega (arith, low))
within names (f ∷ fs) k d low = by (λ j l. within names fs j d l) (position (bytes_eq (held_name f)) names) refl k low
  where
    by : ((j : ℕ) → j < length (filter_map (offer_of names) fs) → (get_or (filter_map (offer_of names) fs) j d).name < length names) → (o : Option ℕ) → position (bytes_eq (held_name f)) names ≡ o → (k : ℕ) → k < length (cons_option (option_map (offer_by f) (position (bytes_eq (held_name f)) names)) (filter_map (offer_of names) fs)) → (get_or (cons_option (option_map (offer_by f) (position (bytes_eq (held_name f)) names)) (filter_map (offer_of names) fs)) k d).name < length names
    by later None e k l = let m = rw e at l in rw e (later k m)
    by later (Some id) e zero l = let p = some_position (bytes_eq (held_name f)) names id e in let low : position_or_len (bytes_eq (held_name f)) names < length names = p.1 in let same : position_or_len (bytes_eq (held_name f)) names ≡ id = p.0 in rw e (omega (arith, low, same))
    by later (Some id) e (suc k) l = let m = rw e at l in rw e (later k (omega (arith, m)))

pub offers_fit : (names : List (List ℕ)) (fs : List FoundIn) (offers : List Offer) (words : List ℕ) → offers ≡ filter_map (offer_of names) fs → length words ≡ length names → All (λ e. e.name < length words) offers
offers_fit names fs offers words made count = rw made (λ k d low. let m : (get_or (filter_map (offer_of names) fs) k d).name < length names = within names fs k d low in omega (arith, m, count))

-- words that were written over others of as many names
pub written : (files : List LoadedFile) (names : List (List ℕ)) (new items : List ℕ) (n : ℕ) → AreLeast files names new → length items ≡ length names → n ≡ length names → AreLeast files names (take n (new ++ drop (length new) items))
written files names new items n are old count =
    let long : length new ≡ length names = ap length are ∙ length-map names (least files) in
    let rest : drop (length new) items ≡ [] = drop_all (length new) items (omega (arith, long, old)) in
    ap (λ (ws : List ℕ). take n (new ++ ws)) rest ∙ ap (take n) (append_none new) ∙ take_all n new (omega (arith, long, count)) ∙ are
