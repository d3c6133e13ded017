-- The words of a race in which nothing stands at the start are the least words of the candidates.
use Rattle.std.proofs.Common.{◌≡◌, ℕ, zero, suc, ◌<◌, ◌==◌, ◌++◌, Bool, true, false, List, [], ◌∷◌, Some, length, map, min, replicate, get_or, slice_get, refl, sym, ap, ◌∙◌, arith, eq-eqb, eqb-true}
use Rattle.std.specs.List.{IsDistinct, filter, flat_map, fold, position_or_len}
use Rattle.std.specs.Str.{bytes_eq}
use Rattle.std.proofs.lemmas.Grind.{same_number_lists}
use Rattle.std.proofs.lemmas.List.{get_or-map, length-map, map-append}
use Rattle.std.proofs.lemmas.List.Concat.{flat_map-append}
use Rattle.std.proofs.lemmas.List.Elements.{filter-append}
use Rattle.std.proofs.lemmas.List.Sums.{fold-append}
use Rattle.std.proofs.lemmas.Option.{slice_get-get_or}
use Rattle.std.proofs.lemmas.Slice.Eq.{bytes_eq-Decides}
use Rattle.mo_types.specs.Candidates.{Candidate, candidate_word, candidates, candidates_for, candidates_of, least, no_word}
use Rattle.mo_types.specs.declared.loaded.LoadedFile.{LoadedFile}
use Rattle.name_ids.proofs.Once.{stands}
use Rattle.race_core.specs.Run.{least_word, run, words_for}
use Rattle.race_core.proofs.Runs.{get_or-run, length-run}
use Rattle.symbol_winners.specs.Winners.{AreLeast}
use Rattle.name_offers.specs.Offers.{bid_of, bids_of}

at_position : (n : List ℕ) (names : List (List ℕ)) (id : ℕ) (name : List ℕ) → position_or_len (bytes_eq n) names ≡ id → slice_get names id ≡ Some name → bytes_eq n name ≡ true
at_position n [] id name e is = cc
at_position n (x ∷ names) zero name e is = by (bytes_eq n x) refl
  where
    same : x ≡ name
    same = let f : Some x ≡ Some name = is in cc

    by : (b : Bool) → bytes_eq n x ≡ b → bytes_eq n name ≡ true
    by true h = rw same at h
    by false h = absurd (let f : position_or_len (bytes_eq n) (x ∷ names) ≡ 0 = e in let g = rw h at f in omega (arith, g))
at_position n (x ∷ names) (suc id) name e is = by (λ low. at_position n names id name low is) (bytes_eq n x) refl
  where
    by : (position_or_len (bytes_eq n) names ≡ id → bytes_eq n name ≡ true) → (b : Bool) → bytes_eq n x ≡ b → bytes_eq n name ≡ true
    by later true h = absurd (let f : position_or_len (bytes_eq n) (x ∷ names) ≡ suc id = e in let g = rw h at f in omega (arith, g))
    by later false h = later (let f : position_or_len (bytes_eq n) (x ∷ names) ≡ suc id = e in let g = rw h at f in omega (arith, g))

two_ways : (a b : Bool) → (a ≡ true → b ≡ true) → (b ≡ true → a ≡ true) → a ≡ b
two_ways true b f g = sym (f refl)
two_ways false true f g = g refl
two_ways false false f g = refl

module _ (names : List (List ℕ)) (apart : IsDistinct bytes_eq names) (id : ℕ) (name : List ℕ) (is : slice_get names id ≡ Some name) where
  -- an offer is for the number just where its candidate has the name
  same_test : (candidate : Candidate) → (position_or_len (bytes_eq candidate.symbol.name) names == id) ≡ bytes_eq name candidate.symbol.name
  same_test candidate =
      two_ways (position_or_len (bytes_eq candidate.symbol.name) names == id) (bytes_eq name candidate.symbol.name)
      (λ at.
      let there : bytes_eq candidate.symbol.name name ≡ true = at_position candidate.symbol.name names id name (eqb-true _ _ at) is in
      (bytes_eq-Decides name candidate.symbol.name).1 (sym ((bytes_eq-Decides candidate.symbol.name name).0 there)))
      (λ same.
      let here : position_or_len (bytes_eq name) names ≡ id = (stands names id name apart is).0 in
      eq-eqb _ _ (ap (λ (n : List ℕ). position_or_len (bytes_eq n) names) (sym ((bytes_eq-Decides name candidate.symbol.name).0 same)) ∙ here))

  words_of : (cs : List Candidate) → words_for id (map (bid_of names) cs) ≡ map candidate_word (filter (λ (c : Candidate). bytes_eq name c.symbol.name) cs)
  words_of [] = refl
  words_of (c ∷ cs) = by (words_of cs) (bytes_eq name c.symbol.name) refl
    where
      by : words_for id (map (bid_of names) cs) ≡ map candidate_word (filter (λ (d : Candidate). bytes_eq name d.symbol.name) cs) → (b : Bool) → bytes_eq name c.symbol.name ≡ b → words_for id (map (bid_of names) (c ∷ cs)) ≡ map candidate_word (filter (λ (d : Candidate). bytes_eq name d.symbol.name) (c ∷ cs))
      by rest true e = rw (same_test c ∙ e, e) (ap (λ (ws : List ℕ). candidate_word c ∷ ws) rest)
      by rest false e = rw (same_test c ∙ e, e) rest

  least_of : (before files : List LoadedFile) → least_word id (least before name) (bids_of names files) ≡ least (before ++ files) name
  unfolding bids_of least candidates_for candidates least_word
  least_of before files =
      ap (fold min (fold min no_word (map candidate_word (filter (λ (c : Candidate). bytes_eq name c.symbol.name) (flat_map candidates_of before))))) (words_of (flat_map candidates_of files))
      ∙ sym (fold-append min no_word (map candidate_word (filter (λ (c : Candidate). bytes_eq name c.symbol.name) (flat_map candidates_of before))) (map candidate_word (filter (λ (c : Candidate). bytes_eq name c.symbol.name) (flat_map candidates_of files))))
      ∙ ap (fold min no_word) (sym (
      ap (λ (cs : List Candidate). map candidate_word (filter (λ (c : Candidate). bytes_eq name c.symbol.name) cs)) (flat_map-append candidates_of before files)
      ∙ ap (map candidate_word) (filter-append (λ (c : Candidate). bytes_eq name c.symbol.name) (flat_map candidates_of before) (flat_map candidates_of files))
      ∙ map-append candidate_word (filter (λ (c : Candidate). bytes_eq name c.symbol.name) (flat_map candidates_of before)) (filter (λ (c : Candidate). bytes_eq name c.symbol.name) (flat_map candidates_of files))
      ))

-- words that are the least of some files' candidates are, after the offers of further ones, the least of all
pub least_after : (before files : List LoadedFile) (names : List (List ℕ)) (start : List ℕ) → IsDistinct bytes_eq names → AreLeast before names start → AreLeast (before ++ files) names (run start (bids_of names files))
least_after before files names start apart are =
    let many : length start ≡ length names = ap length are ∙ length-map names (least before) in
    same_number_lists (run start (bids_of names files)) (map (least (before ++ files)) names)
    (length-run start (bids_of names files) ∙ many ∙ sym (length-map names (least (before ++ files))))
    (λ k low.
    let within : k < length start = omega (arith, low, length-run start (bids_of names files)) in
    let there : k < length names = omega (arith, within, many) in
    get_or-run start (bids_of names files) k 0 0 within
    ∙ ap (λ (w : ℕ). least_word k w (bids_of names files)) (ap (λ (ws : List ℕ). get_or ws k 0) are ∙ get_or-map (least before) names k [] 0 there)
    ∙ least_of names apart k (get_or names k []) (slice_get-get_or names k [] there) before files
    ∙ sym (get_or-map (least (before ++ files)) names k [] 0 there))

none_least : (names : List (List ℕ)) → AreLeast [] names (replicate (length names) no_word)
unfolding least candidates_for candidates
none_least [] = refl
none_least (name ∷ names) = ap (λ (ws : List ℕ). no_word ∷ ws) (none_least names)

-- those of a race at whose start no name has one
pub least_from_none : (files : List LoadedFile) (names : List (List ℕ)) → IsDistinct bytes_eq names → AreLeast files names (run (replicate (length names) no_word) (bids_of names files))
least_from_none files names apart = least_after [] files names (replicate (length names) no_word) apart (none_least names)
