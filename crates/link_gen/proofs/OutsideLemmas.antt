-- The functions of other objects, put in order, are the numbers that are called and not the object's own.
use Rattle.std.proofs.Common.{◌≡◌, ℕ, zero, suc, ◌+◌, ◌*◌, ◌<◌, ◌≤◌, List, length, filter, Bool, true, not, inl, inr, refl, sym, ap, ◌∙◌, subst, arith}
use Rattle.std.specs.Prelude.{◌==◌}
use Rattle.std.specs.List.{count_by, list_any, range_with_len}
use Rattle.std.specs.List.Sorted.{IsStrictlyIncreasing}
use Rattle.std.proofs.lemmas.Bool.{and_from, and_parts, cases_order, eq-eqb, eqb-true}
use Rattle.std.proofs.lemmas.Cmp.{nat_cmp_total}
use Rattle.std.proofs.lemmas.List.FromFn.{get_or-range_with_len, length-range_with_len}
use Rattle.std.proofs.lemmas.List.Sums.{count_by-le-length, length-filter}
use Rattle.std.proofs.lemmas.List.Kept.{IsStrictlyIncreasing-filter}
use Rattle.std.proofs.lemmas.Map.Keys.{sorted_from_strictly_increasing}
use Rattle.std.proofs.lemmas.Nat.{mod_below}
use Rattle.list_lemmas.proofs.Members.{In, Contains_from_in, any_from_in, any_true, from_filter, from_map, in_filter, in_from_Contains}
use Rattle.list_lemmas.proofs.Rising.{rising_same}
use Rattle.link_gen.specs.Calls.{IsMade, drawn_functions, first_function, function_count, has_function, is_called_outside, outside_functions}
use Rattle.link_gen.specs.Draws.{drawn}
use Rattle.link_gen.specs.InOrder.{AreInOrder}
use Rattle.link_gen.specs.declared.calls.MadeObject.{MadeObject}

range_rises : (a n : ℕ) → IsStrictlyIncreasing (range_with_len a n)
range_rises a n = λ k low.
    let within : k + 1 < n = rw length-range_with_len at low in
    let one = get_or-range_with_len a n k 0 (omega arith) in
    let two = get_or-range_with_len a n (k + 1) 0 within in
    omega (arith, one, two)

pub outside_rises : (made : MadeObject) → IsStrictlyIncreasing (outside_functions made)
unfolding outside_functions
outside_rises made = IsStrictlyIncreasing-filter (is_called_outside made) (range_with_len 0 made.count) (range_rises 0 made.count)

pub in_range : (a n i : ℕ) → a ≤ i → i < a + n → In i (range_with_len a n)
in_range a zero i low high = absurd (omega arith)
in_range a (suc n) i low high =
    elim (cases_order a i) [
      | inl e ↦ inl e
      | inr (inl less) ↦ inr (in_range (a + 1) n i (omega arith) (omega arith))
      | inr (inr more) ↦ absurd (omega arith)
    ]

pub drawn_below : (count draw : ℕ) → 0 < count → drawn count draw < count
unfolding drawn
drawn_below count draw some = mod_below _ count some

pub drawn_in_input : (made : MadeObject) (i : ℕ) → 0 < made.count → In i (drawn_functions made) → i < made.count
unfolding drawn_functions
drawn_in_input made i some h =
    let from = from_map (drawn made.count) (range_with_len (2 * first_function made) (2 * function_count made)) i h in
    subst (λ (k : ℕ). k < made.count) from.2 (drawn_below made.count from.0 some)

-- a function that is drawn and isn't the object's own is one of them
pub is_outside : (made : MadeObject) (i : ℕ) → 0 < made.count → In i (drawn_functions made) → not (has_function made i) ≡ true → In i (outside_functions made)
unfolding outside_functions
is_outside made i some h away =
    in_filter (is_called_outside made) (range_with_len 0 made.count) i
    (in_range 0 made.count i (omega arith) (let low = drawn_in_input made i some h in omega arith))
    (and_from (not (has_function made i)) (list_any (λ (drawn : ℕ). drawn == i) (drawn_functions made)) away
    (any_from_in (λ (drawn : ℕ). drawn == i) (drawn_functions made) i h (eq-eqb i i refl)))

pub from_outside : (made : MadeObject) (i : ℕ) → In i (outside_functions made) → In i (drawn_functions made) × (not (has_function made i) ≡ true)
unfolding outside_functions
from_outside made i h =
    let from = from_filter (is_called_outside made) (range_with_len 0 made.count) i h in
    let parts = and_parts (not (has_function made i)) (list_any (λ (drawn : ℕ). drawn == i) (drawn_functions made)) from.1 in
    let found = any_true (λ (drawn : ℕ). drawn == i) (drawn_functions made) parts.1 in
    (subst (λ (k : ℕ). In k (drawn_functions made)) (eqb-true found.0 i found.2) found.1, parts.0)

pub put_in_order_is : (made : MadeObject) (drawn others ordered : List ℕ) → IsMade made → drawn ≡ drawn_functions made → others ≡ filter (λ i. not (has_function made i)) drawn → AreInOrder others ordered → ordered ≡ outside_functions made
put_in_order_is made drawn others ordered is_made is kept order =
    let some = is_made.some in
    let same : others ≡ filter (λ (i : ℕ). not (has_function made i)) (drawn_functions made) = kept ∙ ap (filter (λ (i : ℕ). not (has_function made i))) is in
    rising_same nat_cmp_total ordered (outside_functions made)
    (sorted_from_strictly_increasing ordered order.rises)
    (sorted_from_strictly_increasing (outside_functions made) (outside_rises made))
    (λ t h.
    let there : In t others = in_from_Contains others t (order.adds_none t (Contains_from_in ordered t h)) in
    let from = from_filter (λ (i : ℕ). not (has_function made i)) (drawn_functions made) t (subst (λ (xs : List ℕ). In t xs) same there) in
    is_outside made t some from.0 from.1)
    (λ t h.
    let from = from_outside made t h in
    let there : In t others = subst (λ (xs : List ℕ). In t xs) (sym same) (in_filter (λ (i : ℕ). not (has_function made i)) (drawn_functions made) t from.0 from.1) in
    in_from_Contains ordered t (order.keeps t (Contains_from_in others t there)))

pub filtered_few : {X : Type 0} (p : X → Bool) (xs ys zs : List X) → ys ≡ filter p xs → length zs ≤ length ys → length zs ≤ length xs
filtered_few p xs ys zs is few =
    let less : count_by p xs ≤ length xs = count_by-le-length p xs in
    let e : length ys ≡ count_by p xs = ap length is ∙ length-filter p xs in omega arith

pub ruleset outside = (put_in_order_is, filtered_few)
