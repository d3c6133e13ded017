-- Few functions are drawn, and few symbols there are.
use Rattle.std.proofs.Common.{◌≡◌, ℕ, zero, suc, ◌+◌, ◌<◌, ◌≤◌, List, [], ◌∷◌, length, filter, Bool, true, false, cond, not, ◌&&◌, ◌||◌, refl, arith}
use Rattle.std.specs.Prelude.{◌==◌}
use Rattle.std.specs.List.{list_any, range_with_len}
use Rattle.std.proofs.lemmas.Bool.{eqb-true, ne_eqb}
use Rattle.link_gen.proofs.CallLemmas.{length_drawn}
use Rattle.link_gen.proofs.TableLemmas.{few_symbols}
use Rattle.link_gen.specs.Calls.{drawn_functions, has_function, is_called_outside, outside_functions}
use Rattle.link_gen.specs.Symbols.{symbols_of}
use Rattle.link_gen.specs.declared.calls.MadeObject.{MadeObject}

-- ---- what passes one of two tests, or both

one_of_two : {X : Type 0} (a b : Bool) (x : X) (us vs ws : List X) → length us ≤ length vs + length ws → length (cond (a || b) (x ∷ us) us) ≤ length (cond a (x ∷ vs) vs) + length (cond b (x ∷ ws) ws)
one_of_two true true x us vs ws few = omega arith
one_of_two true false x us vs ws few = omega arith
one_of_two false true x us vs ws few = omega arith
one_of_two false false x us vs ws few = few

either_few : {X : Type 0} (p q : X → Bool) (xs : List X) → length (filter (λ x. p x || q x) xs) ≤ length (filter p xs) + length (filter q xs)
either_few p q [] = omega arith
either_few p q (x ∷ xs) = one_of_two (p x) (q x) x (filter (λ y. p y || q y) xs) (filter p xs) (filter q xs) (either_few p q xs)

both_of_two : {X : Type 0} (a b : Bool) (x : X) (us ws : List X) → length us ≤ length ws → length (cond (a && b) (x ∷ us) us) ≤ length (cond b (x ∷ ws) ws)
both_of_two true true x us ws few = omega arith
both_of_two true false x us ws few = few
both_of_two false true x us ws few = omega arith
both_of_two false false x us ws few = few

both_few : {X : Type 0} (p q : X → Bool) (xs : List X) → length (filter (λ x. p x && q x) xs) ≤ length (filter q xs)
both_few p q [] = omega arith
both_few p q (x ∷ xs) = both_of_two (p x) (q x) x (filter (λ y. p y && q y) xs) (filter q xs) (both_few p q xs)

-- ---- the numbers of a range that equal one of some numbers

not_above : (d a n : ℕ) → d < a → length (filter (λ i. d == i) (range_with_len a n)) ≤ 0
not_above d a zero low = omega arith
not_above d a (suc n) low =
    let other : (d == a) ≡ false = ne_eqb d a (λ e. omega arith) in
    let rest = not_above d (a + 1) n (omega arith) in
    rw other rest

one_at_most : (d a n : ℕ) → length (filter (λ i. d == i) (range_with_len a n)) ≤ 1
one_at_most d a zero = omega arith
one_at_most d a (suc n) = by (d == a) refl (one_at_most d (a + 1) n)
  where
    by : (b : Bool) → (d == a) ≡ b → length (filter (λ i. d == i) (range_with_len (a + 1) n)) ≤ 1 → length (cond b (a ∷ filter (λ i. d == i) (range_with_len (a + 1) n)) (filter (λ i. d == i) (range_with_len (a + 1) n))) ≤ 1
    by true same later =
        let e : d ≡ a = eqb-true d a same in
        let rest = not_above d (a + 1) n (omega arith) in omega arith
    by false other later = later

none_pass : (a n : ℕ) → length (filter (λ (i : ℕ). false) (range_with_len a n)) ≤ 0
none_pass a zero = omega arith
none_pass a (suc n) = none_pass (a + 1) n

among_few : (ds : List ℕ) (a n : ℕ) → length (filter (λ i. list_any (λ d. d == i) ds) (range_with_len a n)) ≤ length ds
among_few [] a n = none_pass a n
among_few (d ∷ ds) a n =
    let one = one_at_most d a n in
    let rest = among_few ds a n in
    let sum : length (filter (λ i. list_any (λ e. e == i) (d ∷ ds)) (range_with_len a n)) ≤ length (filter (λ i. d == i) (range_with_len a n)) + length (filter (λ i. list_any (λ e. e == i) ds) (range_with_len a n)) = either_few (λ i. d == i) (λ i. list_any (λ e. e == i) ds) (range_with_len a n) in
    omega arith

-- ---- the symbols of an object

few_outside_functions : (made : MadeObject) → length (outside_functions made) ≤ 128
unfolding outside_functions
few_outside_functions made =
    let among = among_few (drawn_functions made) 0 made.count in
    let both : length (filter (is_called_outside made) (range_with_len 0 made.count)) ≤ length (filter (λ i. list_any (λ d. d == i) (drawn_functions made)) (range_with_len 0 made.count)) = both_few (λ i. not (has_function made i)) (λ i. list_any (λ d. d == i) (drawn_functions made)) (range_with_len 0 made.count) in
    let long = length_drawn made in
    omega arith

pub symbols_few : (made : MadeObject) → length (symbols_of made) ≤ 201
symbols_few made = few_symbols made 0 (few_outside_functions made)
