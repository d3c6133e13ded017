-- Numbers in the order of their first use.
use Rattle.std.proofs.Common.{◌≡◌, ℕ, ◌+◌, ◌<◌, ◌==◌, ◌⊎◌, ltb, cond, Bool, true, false, inl, inr, List, [], ◌∷◌, ◌++◌, length, get_or, refl, sym, ap, subst, ◌∙◌, arith, append_assoc, length-append, map}
use Rattle.std.specs.List.{AllByRecursion}
use Rattle.std.specs.List.Sorted.{IsStrictlySortedBy}
use Rattle.std.specs.Ordering.{nat_cmp, on}
use Rattle.std.specs.declared.cmp.Ordering.TheVariants.{Less}
use Rattle.std.proofs.lemmas.Cmp.{on_total, nat_cmp_total}
use Rattle.std.proofs.lemmas.Bool.{ltb-true, ltb-false}
use Rattle.std.proofs.lemmas.Bool.Decides.{nat_tests}
use Rattle.std.proofs.lemmas.List.{get_or_default}
use Rattle.std.proofs.lemmas.List.Sums.{position_or_len_is, passes_at_first}
use Rattle.std.proofs.Math.ListN.{get_or-append}
use Rattle.std.proofs.Math.Seq.{get_or-append_seam}
use Rattle.list_lemmas.proofs.Members.{In, in_from_Contains, Contains_from_in, in_left, in_last, from_last, all_weaker}
use Rattle.list_lemmas.proofs.Rising.{rising_same}
use Rattle.image_format.specs.declared.unwind.RegularPageEntry.{RegularPageEntry}
use Rattle.unwind_out.specs.Pages.{with_new, first_uses, encodings}
use Rattle.unwind_out.specs.Law.{first_place, AreFirstUses}
use Rattle.unwind_out.proofs.Uses.{place, new_by}
use Rattle.unwind_out.proofs.Slots.{less}

-- ---- the members

same_number : (a b : ℕ) → (a == b) ≡ true → a ≡ b
same_number a b e = grind (arith, nat_tests)

pub in_by_place : (numbers : List ℕ) (number : ℕ) → place numbers number < length numbers → In number numbers
in_by_place numbers number low =
    in_from_Contains numbers number (place numbers number, low, get_or_default numbers (place numbers number) number 0 low ∙ same_number (get_or numbers (place numbers number) 0) number (passes_at_first (λ other. other == number) numbers 0 low))

place_by : (other : ℕ) (numbers : List ℕ) (number : ℕ) (same : Bool) → (other == number) ≡ same → (In number numbers → place numbers number < length numbers) → In number (other ∷ numbers) → place (other ∷ numbers) number < length (other ∷ numbers)
place_by other numbers number true e rest there = rw e (omega arith)
place_by other numbers number false e rest (inl is) = let equal : (other == number) ≡ true = grind (arith, nat_tests) in cc
place_by other numbers number false e rest (inr there) = let low = rest there in rw e (omega arith)

pub place_by_in : (numbers : List ℕ) (number : ℕ) → In number numbers → place numbers number < length numbers
place_by_in [] number there = absurd there
place_by_in (other ∷ numbers) number there = place_by other numbers number (other == number) refl (place_by_in numbers number) there

new_own : (seen : List ℕ) (number : ℕ) (there : Bool) → ltb (place seen number) (length seen) ≡ there → In number (cond there seen (seen ++ number ∷ []))
new_own seen number true e = in_by_place seen number (ltb-true (place seen number) (length seen) e)
new_own seen number false e = in_last seen number

new_old : (seen : List ℕ) (number x : ℕ) (there : Bool) → In x seen → In x (cond there seen (seen ++ number ∷ []))
new_old seen number x true in_seen = in_seen
new_old seen number x false in_seen = in_left seen (number ∷ []) x in_seen

new_from : (seen : List ℕ) (number x : ℕ) (there : Bool) → In x (cond there seen (seen ++ number ∷ [])) → In x seen ⊎ (number ≡ x)
new_from seen number x true in_new = inl in_new
new_from seen number x false in_new = from_last seen number x in_new

is_new : (seen : List ℕ) (number : ℕ) → with_new seen number ≡ cond (ltb (place seen number) (length seen)) seen (seen ++ number ∷ [])
is_new seen number = new_by seen number (ltb (place seen number) (length seen)) refl

kept_in : (seen xs : List ℕ) (x : ℕ) → In x seen → In x (first_uses seen xs)
unfolding first_uses
kept_in seen [] x there = there
kept_in seen (y ∷ xs) x there = kept_in (with_new seen y) xs x (subst (In x) (sym (is_new seen y)) (new_old seen y x (ltb (place seen y) (length seen)) there))

used_in : (seen xs : List ℕ) (x : ℕ) → In x xs → In x (first_uses seen xs)
unfolding first_uses
used_in seen [] x there = absurd there
used_in seen (y ∷ xs) x (inl e) =
    subst (λ (n : ℕ). In n (first_uses (with_new seen y) xs)) e
    (kept_in (with_new seen y) xs y (subst (In y) (sym (is_new seen y)) (new_own seen y (ltb (place seen y) (length seen)) refl)))
used_in seen (y ∷ xs) x (inr there) = used_in (with_new seen y) xs x there

from_used : (seen xs : List ℕ) (x : ℕ) → In x (first_uses seen xs) → In x seen ⊎ In x xs
unfolding first_uses
from_used seen [] x there = inl there
from_used seen (y ∷ xs) x there = elim (from_used (with_new seen y) xs x there) [
  | inl new ↦ elim (new_from seen y x (ltb (place seen y) (length seen)) (subst (In x) (is_new seen y) new)) [
    | inl old ↦ inl old
    | inr e ↦ inr (inl e)
  ]
  | inr later ↦ inr (inr later)
]

-- ---- their order

Orders : List ℕ → List ℕ → Type 0
Orders used numbers = IsStrictlySortedBy (on (first_place used) nat_cmp) numbers

-- one more behind those that are below it
order_push : (used numbers : List ℕ) (number : ℕ) → Orders used numbers → AllByRecursion (λ other. first_place used other < first_place used number) numbers → Orders used (numbers ++ number ∷ [])
unfolding Orders IsStrictlySortedBy
order_push used [] number order below = (tt, tt)
order_push used (x ∷ numbers) number order below = (
  push_all (λ other. on (first_place used) nat_cmp x other ≡ Less) numbers number order.0 (less (first_place used x) (first_place used number) below.0),
  order_push used numbers number order.1 below.1,
)
  where
    push_all : (P : ℕ → Type 0) (xs : List ℕ) (y : ℕ) → AllByRecursion P xs → P y → AllByRecursion P (xs ++ y ∷ [])
    push_all P [] y all here = (here, tt)
    push_all P (z ∷ xs) y all here = (all.0, push_all P xs y all.1 here)

-- what was seen stands in front
record IsSeen (front used seen : List ℕ) : Type 0 where
  pub there : (x : ℕ) → In x front → In x seen
  pub low : AllByRecursion (λ other. first_place used other < length front) seen
  pub order : Orders used seen

not_before : (front : List ℕ) (number k : ℕ) → (In number front → ⊥) → k < length front → (get_or front k 0 == number) ≡ false
not_before front number k away low = by (get_or front k 0 == number) refl
  where
    by : (same : Bool) → (get_or front k 0 == number) ≡ same → (get_or front k 0 == number) ≡ false
    by true e = absurd (away (in_from_Contains front number (k, low, get_or_default front k number 0 low ∙ same_number (get_or front k 0) number e)))
    by false e = e

-- a number that isn't before stands first where it is met
first_met : (front rest : List ℕ) (number : ℕ) → (In number front → ⊥) → first_place (front ++ number ∷ rest) number ≡ length front
first_met front rest number away =
    let long : length (front ++ number ∷ rest) ≡ length front + length (number ∷ rest) = length-append front (number ∷ rest) in
    let own : (number == number) ≡ true = grind (arith, nat_tests) in
    position_or_len_is (λ other. other == number) (front ++ number ∷ rest) (length front) 0 (omega arith)
    (λ k low. ap (λ (n : ℕ). n == number) (get_or-append front (number ∷ rest) 0 k low) ∙ not_before front number k away low)
    (λ low. ap (λ (n : ℕ). n == number) (get_or-append_seam front number rest 0) ∙ own)

seen_next : (front rest seen : List ℕ) (number : ℕ) (there : Bool) → ltb (place seen number) (length seen) ≡ there → IsSeen front (front ++ number ∷ rest) seen → IsSeen (front ++ number ∷ []) (front ++ number ∷ rest) (cond there seen (seen ++ number ∷ []))
seen_next front rest seen number true e is =
    let long : length (front ++ number ∷ []) ≡ length front + 1 = length-append front (number ∷ []) in
    record {
      there = λ x in_front. elim (from_last front number x in_front) [
        | inl old ↦ is.there x old
        | inr same ↦ subst (λ (n : ℕ). In n seen) same (in_by_place seen number (ltb-true (place seen number) (length seen) e))
      ];
      low = all_weaker (λ other. first_place (front ++ number ∷ rest) other < length front) (λ other. first_place (front ++ number ∷ rest) other < length (front ++ number ∷ [])) (λ other h. omega arith) seen is.low;
      order = is.order;
    }
seen_next front rest seen number false e is =
    let long : length (front ++ number ∷ []) ≡ length front + 1 = length-append front (number ∷ []) in
    let high = ltb-false (place seen number) (length seen) e in
    let away : In number front → ⊥ = λ in_front. let low = place_by_in seen number (is.there number in_front) in absurd (omega arith) in
    let first : first_place (front ++ number ∷ rest) number ≡ length front = first_met front rest number away in
    record {
      there = λ x in_front. elim (from_last front number x in_front) [
        | inl old ↦ in_left seen (number ∷ []) x (is.there x old)
        | inr same ↦ subst (λ (n : ℕ). In n (seen ++ number ∷ [])) same (in_last seen number)
      ];
      low = low_push (λ other. first_place (front ++ number ∷ rest) other < length (front ++ number ∷ [])) seen number
          (all_weaker (λ other. first_place (front ++ number ∷ rest) other < length front) (λ other. first_place (front ++ number ∷ rest) other < length (front ++ number ∷ [])) (λ other h. omega arith) seen is.low) (omega arith);
      order = order_push (front ++ number ∷ rest) seen number is.order
          (all_weaker (λ other. first_place (front ++ number ∷ rest) other < length front) (λ other. first_place (front ++ number ∷ rest) other < first_place (front ++ number ∷ rest) number) (λ other h. omega arith) seen is.low);
    }
  where
    low_push : (P : ℕ → Type 0) (xs : List ℕ) (y : ℕ) → AllByRecursion P xs → P y → AllByRecursion P (xs ++ y ∷ [])
    low_push P [] y all here = (here, tt)
    low_push P (z ∷ xs) y all here = (all.0, low_push P xs y all.1 here)

orders_from : (front rest seen : List ℕ) → IsSeen front (front ++ rest) seen → Orders (front ++ rest) (first_uses seen rest)
unfolding first_uses
orders_from front [] seen is = is.order
orders_from front (number ∷ rest) seen is =
    let joined : front ++ number ∷ rest ≡ (front ++ number ∷ []) ++ rest = sym (append_assoc front (number ∷ []) rest) in
    let next : IsSeen (front ++ number ∷ []) (front ++ number ∷ rest) (with_new seen number) =
    subst (IsSeen (front ++ number ∷ []) (front ++ number ∷ rest)) (sym (is_new seen number)) (seen_next front rest seen number (ltb (place seen number) (length seen)) refl is) in
    let later : Orders ((front ++ number ∷ []) ++ rest) (first_uses (with_new seen number) rest) =
    orders_from (front ++ number ∷ []) rest (with_new seen number) (subst (λ (used : List ℕ). IsSeen (front ++ number ∷ []) used (with_new seen number)) joined next) in
    subst (λ (used : List ℕ). Orders used (first_uses (with_new seen number) rest)) (sym joined) later

none_seen : (used : List ℕ) → IsSeen [] used []
unfolding Orders IsStrictlySortedBy
none_seen used = record { there = λ x there. there; low = tt; order = tt }

order_is : (used numbers : List ℕ) → Orders used numbers → IsStrictlySortedBy (on (first_place used) nat_cmp) numbers
unfolding Orders
order_is used numbers order = order

none_or : (x : ℕ) (xs : List ℕ) → In x [] ⊎ In x xs → In x xs
none_or x xs (inl there) = absurd there
none_or x xs (inr there) = there

uses_are : (used : List ℕ) → AreFirstUses used (first_uses [] used)
uses_are used = record {
  each = λ number there. Contains_from_in (first_uses [] used) number (used_in [] used number (in_from_Contains used number there));
  only = λ number there. Contains_from_in used number (none_or number used (from_used [] used number (in_from_Contains (first_uses [] used) number there)));
  order = order_is used (first_uses [] used) (orders_from [] used [] (none_seen used));
}

pub encodings_are : (rows : List RegularPageEntry) → AreFirstUses (map (λ row. row.encoding) rows) (encodings rows)
unfolding encodings
encodings_are rows = uses_are (map (λ row. row.encoding) rows)

uses_one : (used a b : List ℕ) → AreFirstUses used a → AreFirstUses used b → a ≡ b
uses_one used a b one other =
    rising_same (on_total (first_place used) nat_cmp_total) a b one.order other.order
    (λ x there. in_from_Contains b x (other.each x (one.only x (Contains_from_in a x there))))
    (λ x there. in_from_Contains a x (one.each x (other.only x (Contains_from_in b x there))))

pub encodings_one : (rows : List RegularPageEntry) (numbers : List ℕ) → AreFirstUses (map (λ row. row.encoding) rows) numbers → numbers ≡ encodings rows
encodings_one rows numbers are = uses_one (map (λ row. row.encoding) rows) numbers (encodings rows) are (encodings_are rows)
