-- The words of a race: what they are at each place, and after more offers.
use Rattle.std.proofs.Common.{◌≡◌, ◌≢◌, ℕ, zero, suc, ◌+◌, ◌<◌, ◌≤◌, ◌⊎◌, min, List, [], ◌∷◌, ◌++◌, length, map, get_or, set, take, take_all, refl, sym, ◌∙◌, ap, subst, inl, inr, ⊎_elim, le_refl, eqb, cond, arith, length-set, get_or-set_same, get_or-set_other, eq-eqb, ne_eqb}
use Rattle.std.proofs.Math.Nat.{le_antisymm}
use Rattle.std.specs.List.{Contains, enumerate_from}
use Rattle.std.specs.List.Sorted.{IsPermutation}
use Rattle.std.proofs.lemmas.Bool.{cases_eq, cond-true, cond-false, cases_lt}
use Rattle.std.proofs.lemmas.List.{length-map, get_or-map, same_lists, get_or_default, get_or_past, map_more, map-append}
use Rattle.std.proofs.lemmas.List.Elements.{All-contains, All-contains_itself, All-weaker}
use Rattle.std.proofs.lemmas.List.FromFn.{length-enumerate_from, get_or-enumerate_from}
use Rattle.std.proofs.lemmas.List.Sorted.{IsPermutation-sym, IsPermutation-map, Contains-permutation}
use Rattle.race_core.specs.declared.Offer.{Offer}
use Rattle.race_core.specs.Run.{bids_of, run, least_word, IsLeast}
use Rattle.race_core.proofs.Least.{after, least_word-nil, least_word-cons, least_word-append, least_word-le, least_word-le_all, least_word-le_offer, least_word-one, le-least_word}

pub length-run : (start : List ℕ) (bids : List (ℕ × ℕ)) → length (run start bids) ≡ length start
unfolding run
length-run start bids = length-map (enumerate_from 0 start) (λ (p : ℕ × ℕ). least_word p.0 p.1 bids) ∙ length-enumerate_from 0 start

pub get_or-run : (start : List ℕ) (bids : List (ℕ × ℕ)) (i d e : ℕ) → i < length start → get_or (run start bids) i d ≡ least_word i (get_or start i e) bids
unfolding run
get_or-run start bids i d e h =
    let f : ℕ × ℕ → ℕ = λ p. least_word p.0 p.1 bids in
    let h' : i < length (enumerate_from 0 start) = subst (λ n. i < n) (sym (length-enumerate_from 0 start)) h in
    get_or-map f (enumerate_from 0 start) i (0, e) d h' ∙ (ap f (get_or-enumerate_from 0 start i (0, e) h) ∙ ap (λ n. least_word n (get_or start i e) bids) (omega arith))

-- lists of words that are the least words at each place are the words of the race
pub run_from_places : (start words : List ℕ) (bids : List (ℕ × ℕ)) → length words ≡ length start → ((i d : ℕ) → i < length start → get_or words i d ≡ least_word i (get_or start i d) bids) → words ≡ run start bids
run_from_places start words bids same at =
    same_lists words (run start bids) (same ∙ sym (length-run start bids)) (λ i d h. let h' : i < length start = subst (λ n. i < n) same h in at i d h' ∙ sym (get_or-run start bids i d d h'))

-- no offers leave the words
pub run-nil : (start : List ℕ) → start ≡ run start []
run-nil start = run_from_places start start [] refl (λ i d h. sym (least_word-nil i (get_or start i d)))

-- two lists of offers, one after the other
pub run-append : (start : List ℕ) (xs ys : List (ℕ × ℕ)) → run (run start xs) ys ≡ run start (xs ++ ys)
run-append start xs ys = run_from_places start (run (run start xs) ys) (xs ++ ys) (length-run (run start xs) ys ∙ length-run start xs) at
  where
    at : (i d : ℕ) → i < length start → get_or (run (run start xs) ys) i d ≡ least_word i (get_or start i d) (xs ++ ys)
    at i d h =
        get_or-run (run start xs) ys i d d (subst (λ n. i < n) (sym (length-run start xs)) h)
        ∙ (ap (λ w. least_word i w ys) (get_or-run start xs i d d h) ∙ sym (least_word-append i (get_or start i d) xs ys))

-- one offer lowers its name's word, or leaves it
pub run-one : (words : List ℕ) (name word : ℕ) → name < length words → set words name (min (get_or words name 0) word) ≡ run words ((name, word) ∷ [])
run-one words name word h = run_from_places words (set words name (min (get_or words name 0) word)) ((name, word) ∷ []) (length-set words name (min (get_or words name 0) word)) at
  where
    one : (i w : ℕ) → least_word i w ((name, word) ∷ []) ≡ cond (eqb name i) (min w word) w
    one i w = least_word-cons i w (name, word) [] ∙ least_word-nil i (after i w (name, word))

    at : (i d : ℕ) → i < length words → get_or (set words name (min (get_or words name 0) word)) i d ≡ least_word i (get_or words i d) ((name, word) ∷ [])
    at i d l =
        ⊎_elim
        (λ (e : i ≡ name).
        subst (λ k. get_or (set words name (min (get_or words name 0) word)) k d ≡ least_word k (get_or words k d) ((name, word) ∷ [])) (sym e)
        (get_or-set_same words name (min (get_or words name 0) word) d h
        ∙ (ap (λ w. min w word) (get_or_default words name 0 d h) ∙ sym (one name (get_or words name d) ∙ cond-true (eqb name name) (min (get_or words name d) word) (get_or words name d) (eq-eqb name name refl)))))
        (λ (ne : i ≢ name).
        get_or-set_other words name i (min (get_or words name 0) word) d ne
        ∙ sym (one i (get_or words i d) ∙ cond-false (eqb name i) (min (get_or words i d) word) (get_or words i d) (ne_eqb name i (λ e. ne (sym e)))))
        (cases_eq i name)

-- one more offer
pub run-push : (start words : List ℕ) (bids : List (ℕ × ℕ)) (name word : ℕ) → name < length words → words ≡ run start bids → set words name (min (get_or words name 0) word) ≡ run start (bids ++ (name, word) ∷ [])
run-push start words bids name word h is = run-one words name word h ∙ (ap (λ ws. run ws ((name, word) ∷ [])) is ∙ run-append start bids ((name, word) ∷ []))

-- no word rises
pub run-le : (start : List ℕ) (bids : List (ℕ × ℕ)) (i : ℕ) → get_or (run start bids) i 0 ≤ get_or start i 0
run-le start bids i =
    ⊎_elim (λ (h : i < length start). subst (λ w. w ≤ get_or start i 0) (sym (get_or-run start bids i 0 0 h)) (least_word-le bids i (get_or start i 0)))
    (λ (h : length start ≤ i). subst (λ w. w ≤ get_or start i 0) (sym (get_or_past (run start bids) i 0 (subst (λ n. n ≤ i) (sym (length-run start bids)) h))) (omega arith))
    (cases_lt i (length start))

-- a list of offers that has all of another's leaves no higher word
least_word-le_more : (xs ys : List (ℕ × ℕ)) → ((b : ℕ × ℕ) → Contains xs b → Contains ys b) → (n w : ℕ) → least_word n w ys ≤ least_word n w xs
least_word-le_more xs ys among n w =
    let P : ℕ × ℕ → Type 0 = λ b. b.0 ≡ n → least_word n w ys ≤ b.1 in
    le-least_word xs n w (least_word n w ys) (least_word-le ys n w)
    (All-weaker (Contains xs) P (λ b has. All-contains P ys b (least_word-le_all ys n w) (among b has)) xs (All-contains_itself xs))

-- the words depend on which offers were made, and on nothing else of them
pub run_of_same : (start : List ℕ) (xs ys : List (ℕ × ℕ)) → ((b : ℕ × ℕ) → Contains xs b → Contains ys b) → ((b : ℕ × ℕ) → Contains ys b → Contains xs b) → run start xs ≡ run start ys
run_of_same start xs ys there back = run_from_places start (run start xs) ys (length-run start xs) (λ i d h. get_or-run start xs i d d h ∙ le_antisymm (least_word-le_more ys xs back i (get_or start i d)) (least_word-le_more xs ys there i (get_or start i d)))

pub run-IsPermutation : (start : List ℕ) (xs ys : List (ℕ × ℕ)) → IsPermutation xs ys → run start xs ≡ run start ys
run-IsPermutation start xs ys p = run_of_same start xs ys (λ b has. Contains-permutation xs ys b p has) (λ b has. Contains-permutation ys xs b (IsPermutation-sym xs ys p) has)

pub run-bids_of-IsPermutation : (start : List ℕ) (events others : List Offer) → IsPermutation events others → run start (bids_of events) ≡ run start (bids_of others)
run-bids_of-IsPermutation start events others p = run-IsPermutation start (bids_of events) (bids_of others) (IsPermutation-map (λ (e : Offer). (e.name, e.word)) events others p)

pub run-bids_of-append : (start : List ℕ) (first second : List Offer) → run (run start (bids_of first)) (bids_of second) ≡ run start (bids_of (first ++ second))
run-bids_of-append start first second = run-append start (bids_of first) (bids_of second) ∙ ap (run start) (sym (map-append (λ (e : Offer). (e.name, e.word)) first second))

-- the step of a loop over events
pub run_more : (start words : List ℕ) (events : List Offer) (i new : ℕ) (d : Offer) → i < length events → (get_or events i d).name < length words → words ≡ run start (bids_of (take i events))
    → new ≡ min (get_or words (get_or events i d).name 0) (get_or events i d).word → set words (get_or events i d).name new ≡ run start (bids_of (take (i + 1) events))
run_more start words events i new d h there so is =
    ap (set words (get_or events i d).name) is
    ∙ (run-push start words (bids_of (take i events)) (get_or events i d).name (get_or events i d).word there so
    ∙ ap (run start) (sym (map_more (λ (o : Offer). (o.name, o.word)) events i d h)))

pub ruleset replay_loop = (run-nil, run_more, take_all, le_refl)

-- a name's word after the offers: it isn't above the word at the start, nor above a word offered for the name, and it is one of them
pub word_of_run : (start : List ℕ) (bids : List (ℕ × ℕ)) (name : ℕ) → name < length start → IsLeast (get_or start name 0) (λ word. Contains bids (name, word)) (get_or (run start bids) name 0)
word_of_run start bids name h = subst (IsLeast (get_or start name 0) (λ word. Contains bids (name, word))) (sym (get_or-run start bids name 0 0 h)) record {
  from_start = least_word-le bids name (get_or start name 0);
  from_offers = λ word has. least_word-le_offer bids name (get_or start name 0) word has;
  is_one = least_word-one bids name (get_or start name 0);
}

pub ruleset orders = (run-bids_of-IsPermutation)

pub ruleset runs = (run-bids_of-append)

pub ruleset falls = (run-le)
