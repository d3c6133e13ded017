-- The numbers of symbols.
use Rattle.std.proofs.Common.{◌≡◌, ℕ, ◌+◌, ◌-◌, ◌*◌, ◌<◌, ◌≤◌, List, [], ◌∷◌, ◌++◌, length, get_or, map, Contains, Bool, true, false, cond, not, eqb, inl, inr, refl, sym, ap, ◌∙◌, subst, arith}
use Rattle.std.specs.Prelude.{Result, Ok, Err, MatchResult, ◌==◌, nat_le, nat_lt, None, if◌then◌else◌}
use Rattle.std.specs.List.{position_or_len, range_with_len}
use Rattle.std.specs.List.Sorted.{IsBinarySearchResult, IsStrictlyIncreasing}
use Rattle.std.specs.Ordering.{nat_cmp}
use Rattle.std.proofs.lemmas.Bool.{cases_lt, and_from, eq-eqb, le-leb, lt-ltb, leb-true, ltb-true, and_parts, ne_eqb}
use Rattle.std.proofs.lemmas.List.{get_or-map, get_or_default, length-append, length-map}
use Rattle.std.proofs.lemmas.List.Folds.{prefix_len-append}
use Rattle.std.proofs.lemmas.List.FromFn.{get_or-map-range_with_len, length-map-range_with_len}
use Rattle.std.proofs.lemmas.List.Kept.{AllPairs-from_increasing}
use Rattle.std.proofs.lemmas.List.Sorted.{searched}
use Rattle.std.proofs.lemmas.List.Sums.{position_or_len_is}
use Rattle.list_lemmas.proofs.Members.{In, Contains_from_in, in_from_Contains}
use Rattle.link_gen.proofs.Lists.{mapping_ends, mapping_goes_on, mapping_starts_empty}
use Rattle.link_gen.proofs.OutsideLemmas.{is_outside, outside_rises}
use Rattle.link_gen.specs.Calls.{IsDrawn, IsMade, drawn_functions, first_function, function_count, has_function, outside_functions, outside_weaks, own_weaks}
use Rattle.link_gen.specs.Numbers.{AreNumbered}
use Rattle.link_gen.specs.Names.{is_same}
use Rattle.link_gen.specs.Symbols.{defined, defined_symbols, function_symbol, main_symbols, number_of, symbols_of, undefined_function, undefined_symbols, undefined_weak, weak_symbols}
use Rattle.link_gen.specs.declared.calls.MadeObject.{MadeObject}
use Rattle.link_gen.specs.declared.names.SymbolName.{SymbolName}
use Rattle.link_gen.specs.declared.names.SymbolName.TheVariants.{Function, Main}
use Rattle.link_gen.specs.declared.symbols.MadeSymbol.{MadeSymbol}

-- the symbol of a name
abbrev pub is_named : SymbolName → MadeSymbol → Bool
is_named name symbol = is_same symbol.name name

-- ---- a search

pub record IsSearching (name : SymbolName) (list : List MadeSymbol) (at : ℕ) : Type 0 where
  pub none : (k : ℕ) (d : MadeSymbol) → k < at → is_named name (get_or list k d) ≡ false

pub searching_starts : (name : SymbolName) (list : List MadeSymbol) → IsSearching name list 0
searching_starts name list = record { none = λ k d low. absurd (omega arith) }

pub searching_goes_on : (name : SymbolName) (list : List MadeSymbol) (at : ℕ) (d : MadeSymbol) → IsSearching name list at → at < length list → is_same (get_or list at d).name name ≡ false → IsSearching name list (at + 1)
searching_goes_on name list at symbol searching within fails = record {
  none = λ k d low.
      elim (cases_lt k at) [
        | inl below ↦ searching.none k d below
        | inr above ↦
            let e : k ≡ at = omega arith in
            ap (λ (j : ℕ). is_named name (get_or list j d)) e
            ∙ ap (is_named name) (get_or_default list at d symbol within) ∙ fails
      ];
}

pub searching_finds : (name : SymbolName) (list : List MadeSymbol) (at : ℕ) (d : MadeSymbol) → IsSearching name list at → at < length list → is_same (get_or list at d).name name ≡ true → at ≡ number_of list name
unfolding number_of
searching_finds name list at d searching within passes =
    sym (position_or_len_is (is_named name) list at d (omega arith) (λ k low. searching.none k d low) (λ low. passes))

pub searching_ends : (name : SymbolName) (list : List MadeSymbol) (at : ℕ) → IsSearching name list at → length list ≤ at → length list ≡ number_of list name
unfolding number_of
searching_ends name list at searching past =
    sym (position_or_len_is (is_named name) list (length list) nameless (omega arith) (λ k low. searching.none k nameless (omega arith)) (λ low. absurd (omega arith)))
  where
    nameless : MadeSymbol
    nameless = record { name = Main; place = None }

pub ruleset searching = (searching_starts, searching_goes_on, searching_finds, searching_ends)

-- ---- a search through parts of a list

module _ {X : Type 0} (p : X → Bool) where
  in_left_part : (xs ys : List X) (i : ℕ) → position_or_len p xs ≡ i → i < length xs → position_or_len p (xs ++ ys) ≡ i
  in_left_part xs ys i is low =
      let differs : eqb (position_or_len p xs) (length xs) ≡ false = ne_eqb (position_or_len p xs) (length xs) (λ e. omega arith) in
      prefix_len-append (λ (x : X). not (p x)) xs ys ∙ ap (λ (c : Bool). cond c (length xs + position_or_len p ys) (position_or_len p xs)) differs ∙ is

  in_right_part : (xs ys : List X) → position_or_len p xs ≡ length xs → position_or_len p (xs ++ ys) ≡ length xs + position_or_len p ys
  in_right_part xs ys none =
      let same : eqb (position_or_len p xs) (length xs) ≡ true = eq-eqb (position_or_len p xs) (length xs) none in
      prefix_len-append (λ (x : X). not (p x)) xs ys ∙ ap (λ (c : Bool). cond c (length xs + position_or_len p ys) (position_or_len p xs)) same

  in_neither : (xs ys : List X) → position_or_len p xs ≡ length xs → position_or_len p ys ≡ length ys → position_or_len p (xs ++ ys) ≡ length (xs ++ ys)
  in_neither xs ys none absent =
      in_right_part xs ys none ∙ ap (λ (n : ℕ). length xs + n) absent ∙ sym (length-append xs ys)

-- ---- a function's symbol

is_own : (made : MadeObject) (i k : ℕ) (d : MadeSymbol) → k < function_count made → is_named (Function i) (get_or (map (function_symbol made) (range_with_len 0 (function_count made))) k d) ≡ (first_function made + k == i)
is_own made i k d low = ap (is_named (Function i)) (get_or-map-range_with_len (function_symbol made) 0 (function_count made) k k d low (omega arith))

length_own : (made : MadeObject) → length (map (function_symbol made) (range_with_len 0 (function_count made))) ≡ function_count made
length_own made = length-map-range_with_len (function_symbol made) 0 (function_count made)

among_own : (made : MadeObject) (i at : ℕ) → first_function made + at ≡ i → at < function_count made → position_or_len (is_named (Function i)) (map (function_symbol made) (range_with_len 0 (function_count made))) ≡ at
among_own made i at e low =
    let long = length_own made in
    let d : MadeSymbol = record { name = Main; place = None } in
    position_or_len_is (is_named (Function i)) (map (function_symbol made) (range_with_len 0 (function_count made))) at d (omega arith)
    (λ k less. is_own made i k d (omega arith) ∙ ne_eqb (first_function made + k) i (λ f. omega arith))
    (λ within. is_own made i at d low ∙ eq-eqb (first_function made + at) i e)

not_own : (made : MadeObject) (i : ℕ) → has_function made i ≡ false → position_or_len (is_named (Function i)) (map (function_symbol made) (range_with_len 0 (function_count made))) ≡ length (map (function_symbol made) (range_with_len 0 (function_count made)))
not_own made i away =
    let long = length_own made in
    let d : MadeSymbol = record { name = Main; place = None } in
    position_or_len_is (is_named (Function i)) (map (function_symbol made) (range_with_len 0 (function_count made))) (length (map (function_symbol made) (range_with_len 0 (function_count made)))) d (omega arith)
    (λ k less. is_own made i k d (omega arith) ∙ ne_eqb (first_function made + k) i (λ f. apart k (omega arith) f))
    (λ within. absurd (omega arith))
  where
    apart : (k : ℕ) → k < function_count made → first_function made + k ≡ i → ⊥
    apart k low e =
        let yes : has_function made i ≡ true = and_from (nat_le (first_function made) i) (nat_lt i (first_function made + function_count made)) (le-leb (first_function made) i (omega arith)) (lt-ltb i (first_function made + function_count made) (omega arith)) in
        cc

not_main : (made : MadeObject) (i : ℕ) → position_or_len (is_named (Function i)) (main_symbols made) ≡ length (main_symbols made)
not_main made i = by (made.object == 0)
  where
    by : (b : Bool) → position_or_len (is_named (Function i)) (if b then defined Main 0 ∷ [] else []) ≡ length (if b then defined Main 0 ∷ [] else [])
    by true = refl
    by false = refl

not_weak : (i place : ℕ) (ks : List ℕ) → position_or_len (is_named (Function i)) (weak_symbols place ks) ≡ length (weak_symbols place ks)
not_weak i place [] = refl
not_weak i place (k ∷ ks) =
    let e : position_or_len (is_named (Function i)) (weak_symbols (place + 4) ks) ≡ length (weak_symbols (place + 4) ks) = not_weak i (place + 4) ks in
    omega arith

not_defined : (made : MadeObject) (i : ℕ) → has_function made i ≡ false → position_or_len (is_named (Function i)) (defined_symbols made) ≡ length (defined_symbols made)
not_defined made i away =
    in_neither (is_named (Function i)) (map (function_symbol made) (range_with_len 0 (function_count made))) (main_symbols made ++ weak_symbols (16 * function_count made) (own_weaks made))
    (not_own made i away)
    (in_neither (is_named (Function i)) (main_symbols made) (weak_symbols (16 * function_count made) (own_weaks made)) (not_main made i) (not_weak i (16 * function_count made) (own_weaks made)))

among_outside : (outside : List ℕ) (i at : ℕ) → IsStrictlyIncreasing outside → at < length outside → get_or outside at 0 ≡ i → position_or_len (is_named (Function i)) (map undefined_function outside) ≡ at
among_outside outside i at rises low is =
    let long = length-map outside undefined_function in
    let d : MadeSymbol = record { name = Main; place = None } in
    position_or_len_is (is_named (Function i)) (map undefined_function outside) at d (omega arith)
    (λ k less. ap (is_named (Function i)) (get_or-map undefined_function outside k 0 d (omega arith)) ∙ ne_eqb (get_or outside k 0) i (λ e. let below : get_or outside k 0 < get_or outside at 0 = AllPairs-from_increasing outside rises k at 0 less low in omega arith))
    (λ within. ap (is_named (Function i)) (get_or-map undefined_function outside at 0 d low) ∙ eq-eqb (get_or outside at 0) i is)

pub own_number : (made : MadeObject) (i number : ℕ) → has_function made i ≡ true → number ≡ i - first_function made → number ≡ number_of (symbols_of made) (Function i)
unfolding number_of symbols_of
own_number made i number own is =
    let parts = and_parts (nat_le (first_function made) i) (nat_lt i (first_function made + function_count made)) own in
    let low : first_function made ≤ i = leb-true (first_function made) i parts.0 in
    let high : i < first_function made + function_count made = ltb-true i (first_function made + function_count made) parts.1 in
    let at : i - first_function made < function_count made = omega arith in
    let own_at = among_own made i (i - first_function made) (omega arith) at in
    let long = length_own made in
    let rest : List MadeSymbol = main_symbols made ++ weak_symbols (16 * function_count made) (own_weaks made) in
    let first = in_left_part (is_named (Function i)) (map (function_symbol made) (range_with_len 0 (function_count made))) rest (i - first_function made) own_at (omega arith) in
    let within : i - first_function made < length (defined_symbols made) = simp length-append (omega arith) in
    is ∙ sym (in_left_part (is_named (Function i)) (defined_symbols made) (undefined_symbols made) (i - first_function made) first within)

pub outside_number : (made : MadeObject) (outside : List ℕ) (i defined at number : ℕ) → has_function made i ≡ false → outside ≡ outside_functions made → IsStrictlyIncreasing outside → defined ≡ length (defined_symbols made) → at < length outside → get_or outside at 0 ≡ i → number ≡ defined + at → number ≡ number_of (symbols_of made) (Function i)
unfolding number_of symbols_of
outside_number made outside i defined at number away is rises first low here sum =
    let long = length-map outside undefined_function in
    let place = among_outside outside i at rises low here in
    let left = in_left_part (is_named (Function i)) (map undefined_function outside) (map undefined_weak (outside_weaks made)) at place (omega arith) in
    let moved : position_or_len (is_named (Function i)) (undefined_symbols made) ≡ at = subst (λ (us : List ℕ). position_or_len (is_named (Function i)) (map undefined_function us ++ map undefined_weak (outside_weaks made)) ≡ at) is left in
    sum ∙ ap (λ (n : ℕ). n + at) first ∙ ap (λ (n : ℕ). length (defined_symbols made) + n) (sym moved)
    ∙ sym (in_right_part (is_named (Function i)) (defined_symbols made) (undefined_symbols made) (not_defined made i away))

pub rises_here : (made : MadeObject) (outside : List ℕ) (defined : ℕ) → AreNumbered made outside defined → IsStrictlyIncreasing outside
rises_here made outside defined numbered = rw numbered.are (outside_rises made)

pub there : (made : MadeObject) (outside : List ℕ) (defined i : ℕ) → IsMade made → AreNumbered made outside defined → IsDrawn made i → has_function made i ≡ false → Contains outside i
there made outside defined i is numbered drawn away =
    let some = is.some in
    let among : In i (outside_functions made) = is_outside made i some (in_from_Contains (drawn_functions made) i drawn.drawn) (ap not away) in
    rw numbered.are (Contains_from_in (outside_functions made) i among)

pub other_number : (made : MadeObject) (outside : List ℕ) (defined i at number : ℕ) → AreNumbered made outside defined → has_function made i ≡ false → at < length outside → get_or outside at 0 ≡ i → number ≡ defined + at → number ≡ number_of (symbols_of made) (Function i)
other_number made outside defined i at number numbered away low here sum =
    outside_number made outside i defined at number away numbered.are (rises_here made outside defined numbered) numbered.before low here sum

pub ruleset numbers = (own_number, rises_here, there, other_number)

-- ---- the numbers of all that are drawn

pub drawn_here : (made : MadeObject) (drawn : List ℕ) (at i : ℕ) → drawn ≡ drawn_functions made → at < length drawn → i ≡ get_or drawn at i → IsDrawn made i
drawn_here made drawn at i are low is = record { drawn = subst (λ (xs : List ℕ). Contains xs i) are (at, low, sym is) }

pub ruleset numbering = (drawn_here, mapping_starts_empty, mapping_goes_on, mapping_ends)

-- ---- a binary search

pub found_place : (xs : List ℕ) (x place : ℕ) (r : Result ℕ ℕ) → r ≡ Ok place → IsBinarySearchResult (λ y. nat_cmp y x) xs r → IsStrictlyIncreasing xs → (place < length xs) × (get_or xs place 0 ≡ x)
found_place xs x place r is found rises =
    let answer = searched xs x r found (λ i j low high. elim (cases_lt i j) [ inl less ↦ (let below = AllPairs-from_increasing xs rises i j 0 less high in omega arith) | inr same ↦ (let e : i ≡ j = omega arith in rw e (omega arith)) ]) in
    subst (λ (q : Result ℕ ℕ). MatchResult q (λ i. (i < length xs) × (get_or xs i 0 ≡ x)) (λ i. (i ≤ length xs) × ((k : ℕ) → k < i → get_or xs k 0 < x) × ((k : ℕ) → i ≤ k → k < length xs → x < get_or xs k 0))) is answer

pub not_missing : (xs : List ℕ) (x place : ℕ) (r : Result ℕ ℕ) → r ≡ Err place → IsBinarySearchResult (λ y. nat_cmp y x) xs r → IsStrictlyIncreasing xs → Contains xs x → ⊥
not_missing xs x place r is found rises (at, low, here) =
    let answer = searched xs x r found (λ i j low high. elim (cases_lt i j) [ inl less ↦ (let below = AllPairs-from_increasing xs rises i j 0 less high in omega arith) | inr same ↦ (let e : i ≡ j = omega arith in rw e (omega arith)) ]) in
    let missing : (place ≤ length xs) × ((k : ℕ) → k < place → get_or xs k 0 < x) × ((k : ℕ) → place ≤ k → k < length xs → x < get_or xs k 0) =
    subst (λ (q : Result ℕ ℕ). MatchResult q (λ i. (i < length xs) × (get_or xs i 0 ≡ x)) (λ i. (i ≤ length xs) × ((k : ℕ) → k < i → get_or xs k 0 < x) × ((k : ℕ) → i ≤ k → k < length xs → x < get_or xs k 0))) is answer in
    let value : get_or xs at 0 ≡ x = get_or_default xs at 0 x low ∙ here in
    elim (cases_lt at place) [
      | inl before ↦ (let less = missing.1 at before in absurd (omega arith))
      | inr behind ↦ (let more = missing.2 at behind low in absurd (omega arith))
    ]
