-- The references of one atom stand together among those in order.
use Rattle.std.proofs.Common.{◌≡◌, ℕ, zero, suc, ◌+◌, ◌-◌, ◌<◌, ◌≤◌, ◌⊎◌, Bool, true, false, List, [], ◌∷◌, length, take, drop, get_or, refl, sym, ap, ◌∙◌, arith, inl, inr, nat_eq, nat_lt, nat_le}
use Rattle.std.specs.Cmp.{IsTotalOrder, nat_cmp_is}
use Rattle.std.specs.List.{filter}
use Rattle.std.specs.List.Sorted.{IsNonDecreasingBy, IsPartitionPoint, IsSorted}
use Rattle.std.specs.Ordering.{is_lt, nat_cmp}
use Rattle.std.specs.declared.cmp.Ordering.TheVariants.{Less}
use Rattle.std.proofs.lemmas.Bool.{cases_lt, eq-eqb, ne_eqb, leb-false, leb-true, lt-leb, lt-ltb, ltb-false, ltb-true}
use Rattle.std.proofs.lemmas.Bool.Decides.{leb_tells}
use Rattle.std.proofs.lemmas.Cmp.{nat_cmp_total, on_total}
use Rattle.std.proofs.lemmas.List.Sorted.{ranks_by, sorted_far}
use Rattle.mo_types.specs.declared.reference.Ref.{Ref}
use Rattle.liveness.specs.Order.{AreInOrder, compare_at, place_at, place_of, refs_of_atom}

places_total : (refs : List Ref) → IsTotalOrder (compare_at refs)
places_total refs = on_total (place_at refs) nat_cmp_total

pub places_rise : (refs : List Ref) (order : List ℕ) → IsSorted (compare_at refs) order → IsNonDecreasingBy (place_at refs) order
places_rise refs order sorted i j d low high = by (cases_lt (place_at refs (get_or order j d)) (place_at refs (get_or order i d)))
  where
    far : is_lt (compare_at refs (get_or order j d) (get_or order i d)) ≡ false
    far = sorted_far (λ x y. is_lt (compare_at refs x y)) (ranks_by (places_total refs) (λ s. s)) order sorted i j d low high

    falls : place_at refs (get_or order j d) < place_at refs (get_or order i d) → is_lt (compare_at refs (get_or order j d) (get_or order i d)) ≡ true
    falls less =
        let is : Less ≡ nat_cmp (place_at refs (get_or order j d)) (place_at refs (get_or order i d)) = nat_cmp_is (place_at refs (get_or order j d)) (place_at refs (get_or order i d)) Less less in
        rw (sym is) refl

    clash : true ≡ false → place_at refs (get_or order i d) ≤ place_at refs (get_or order j d)
    clash e = cc

    by : (place_at refs (get_or order j d) < place_at refs (get_or order i d)) ⊎ (place_at refs (get_or order i d) ≤ place_at refs (get_or order j d)) → place_at refs (get_or order i d) ≤ place_at refs (get_or order j d)
    by (inl less) = clash (sym (falls less) ∙ far)
    by (inr up) = up

-- what passes a test stands between two places
pub record StandsBetween {X : Type 0} (p : X → Bool) (xs : List X) (from count : ℕ) : Type 0 where
  pub before : (k : ℕ) (d : X) → k < from → k < length xs → p (get_or xs k d) ≡ false
  pub inside : (k : ℕ) (d : X) → from ≤ k → k < from + count → k < length xs → p (get_or xs k d) ≡ true
  pub behind : (k : ℕ) (d : X) → from + count ≤ k → k < length xs → p (get_or xs k d) ≡ false

pub between : {X : Type 0} (p : X → Bool) (xs : List X) (from count : ℕ) → StandsBetween p xs from count → take count (drop from xs) ≡ filter p xs
between p [] zero zero h = refl
between p [] zero (suc count) h = refl
between p [] (suc from) zero h = refl
between p [] (suc from) (suc count) h = refl
between p (x ∷ xs) zero zero h =
    let first : p x ≡ false = h.behind 0 x (omega arith) (omega arith) in
    rw first (between p xs zero zero (record {
      before = λ k d low within. absurd (omega (arith, low));
      inside = λ k d up low within. absurd (omega (arith, low));
      behind = λ k d up within. h.behind (suc k) d (omega arith) (omega (arith, within));
    }))
between p (x ∷ xs) zero (suc count) h =
    let first : p x ≡ true = h.inside 0 x (omega arith) (omega arith) (omega arith) in
    rw first (ap (λ ys. x ∷ ys) (between p xs zero count (record {
      before = λ k d low within. absurd (omega (arith, low));
      inside = λ k d up low within. h.inside (suc k) d (omega arith) (omega (arith, low)) (omega (arith, within));
      behind = λ k d up within. h.behind (suc k) d (omega (arith, up)) (omega (arith, within));
    })))
between p (x ∷ xs) (suc from) count h =
    let first : p x ≡ false = h.before 0 x (omega arith) (omega arith) in
    rw first (between p xs from count (record {
      before = λ k d low within. h.before (suc k) d (omega (arith, low)) (omega (arith, within));
      inside = λ k d up low within. h.inside (suc k) d (omega (arith, up)) (omega (arith, low)) (omega (arith, within));
      behind = λ k d up within. h.behind (suc k) d (omega (arith, up)) (omega (arith, within));
    }))

away : (a b : ℕ) → (a < b) ⊎ (b < a) → nat_eq a b ≡ false
away a b (inl less) = ne_eqb a b (λ e. absurd (omega (arith, e, less)))
away a b (inr more) = ne_eqb a b (λ e. absurd (omega (arith, e, more)))

-- the references of a place stand between those before it and those behind it
pub record ArePoints (refs : List Ref) (order : List ℕ) (at from to : ℕ) : Type 0 where
  pub low : from ≤ length order
  pub high : to ≤ length order
  pub lower : IsPartitionPoint (λ index. nat_lt (place_at refs index) at ≡ true) (λ index. nat_lt (place_at refs index) at ≡ false) order from
  pub upper : IsPartitionPoint (λ index. nat_le (place_at refs index) at ≡ true) (λ index. nat_le (place_at refs index) at ≡ false) order to

pub points : (refs : List Ref) (order : List ℕ) (at from to : ℕ) → from ≤ length order → to ≤ length order → IsPartitionPoint (λ index. nat_lt (place_at refs index) at ≡ true) (λ index. nat_lt (place_at refs index) at ≡ false) order from → IsPartitionPoint (λ index. nat_le (place_at refs index) at ≡ true) (λ index. nat_le (place_at refs index) at ≡ false) order to → ArePoints refs order at from to
points refs order at from to low high lower upper = record { low = low; high = high; lower = lower; upper = upper }

stand : (refs : List Ref) (order : List ℕ) (at from to : ℕ) → ArePoints refs order at from to → from ≤ to → StandsBetween (λ index. nat_eq (place_at refs index) at) order from (to - from)
stand refs order at from to h up = record {
  before = λ k d low within. away (place_at refs (get_or order k d)) at (inl (ltb-true (place_at refs (get_or order k d)) at (h.lower.0 k d (omega arith) low)));
  inside = λ k d over low within. eq-eqb (place_at refs (get_or order k d)) at
      (let least : at ≤ place_at refs (get_or order k d) = ltb-false (place_at refs (get_or order k d)) at (h.lower.1 k d over within) in
      let most : place_at refs (get_or order k d) ≤ at = leb-true (place_at refs (get_or order k d)) at (h.upper.0 k d (omega arith) (omega (arith, low, up))) in
      omega (arith, least, most));
  behind = λ k d over within. away (place_at refs (get_or order k d)) at (inr (leb-false (place_at refs (get_or order k d)) at (h.upper.1 k d (omega (arith, over, up)) within)));
}

pub run_is : (refs : List Ref) (order : List ℕ) (section offset at from to : ℕ) → AreInOrder refs order → at ≡ place_of section offset → ArePoints refs order at from to → from ≤ to → take (to - from) (drop from order) ≡ refs_of_atom refs section offset
run_is refs order section offset at from to are is h up =
    between (λ index. nat_eq (place_at refs index) at) order from (to - from) (stand refs order at from to h up)
    ∙ ap (λ (n : ℕ). filter (λ index. nat_eq (place_at refs index) n) order) is
    ∙ are.listed section offset

pub in_order_sorted : (refs : List Ref) (order : List ℕ) → AreInOrder refs order → IsSorted (compare_at refs) order
in_order_sorted refs order are = are.sorted

pub ruleset runs = (points, run_is, in_order_sorted)

pub same_element : {X : Type 0} (xs : List X) (k : ℕ) (d e : X) → k < length xs → get_or xs k d ≡ get_or xs k e
same_element [] k d e low = absurd (omega (arith, low))
same_element (x ∷ xs) zero d e low = refl
same_element (x ∷ xs) (suc k) d e low = same_element xs k d e (omega (arith, low))

-- ---- from the place where another run ended

up_to : (refs : List Ref) (order : List ℕ) (at near k : ℕ) (d : ℕ) → IsSorted (compare_at refs) order → near ≤ length order → ((e : ℕ) → 0 < near → place_at refs (get_or order (near - 1) e) < at) → k < near → place_at refs (get_or order k d) < at
up_to refs order at near k d sorted high before low =
    let last : place_at refs (get_or order (near - 1) d) < at = before d (omega (arith, low)) in
    let rise : place_at refs (get_or order k d) ≤ place_at refs (get_or order (near - 1) d) = places_rise refs order sorted k (near - 1) d (omega (arith, low)) (omega (arith, low, high)) in
    omega (arith, last, rise)

on_from : (refs : List Ref) (order : List ℕ) (at near k : ℕ) (d : ℕ) → IsSorted (compare_at refs) order → ((e : ℕ) → near < length order → at ≤ place_at refs (get_or order near e)) → near ≤ k → k < length order → at ≤ place_at refs (get_or order k d)
on_from refs order at near k d sorted behind over low =
    let first : at ≤ place_at refs (get_or order near d) = behind d (omega (arith, over, low)) in
    let rise : place_at refs (get_or order near d) ≤ place_at refs (get_or order k d) = places_rise refs order sorted near k d over low in
    omega (arith, first, rise)

is_at_most : (a b : ℕ) → a ≤ b → nat_le a b ≡ true
is_at_most a b up = elim (leb_tells a b) [
  | inl p ↦ p.0
  | inr p ↦ absurd (omega (arith, p.1, up))
]

is_not_less : (a b : ℕ) → b ≤ a → nat_lt a b ≡ false
is_not_less a b up = elim (leb_tells (suc a) b) [
  | inl p ↦ absurd (omega (arith, p.1, up))
  | inr p ↦ p.0
]

pub point_lower : (refs : List Ref) (order : List ℕ) (at near : ℕ) → IsSorted (compare_at refs) order → near ≤ length order → ((e : ℕ) → 0 < near → place_at refs (get_or order (near - 1) e) < at) → ((e : ℕ) → near < length order → at ≤ place_at refs (get_or order near e)) → IsPartitionPoint (λ index. nat_lt (place_at refs index) at ≡ true) (λ index. nat_lt (place_at refs index) at ≡ false) order near
point_lower refs order at near sorted high before behind = (
  λ k d from low. lt-ltb (place_at refs (get_or order k d)) at (up_to refs order at near k d sorted high before low),
  λ k d over low. is_not_less (place_at refs (get_or order k d)) at (on_from refs order at near k d sorted behind over low),
)

pub point_upper : (refs : List Ref) (order : List ℕ) (at to : ℕ) → IsSorted (compare_at refs) order → ((k : ℕ) (d : ℕ) → k < to → place_at refs (get_or order k d) ≤ at) → ((e : ℕ) → to < length order → at < place_at refs (get_or order to e)) → IsPartitionPoint (λ index. nat_le (place_at refs index) at ≡ true) (λ index. nat_le (place_at refs index) at ≡ false) order to
point_upper refs order at to sorted before behind = (
  λ k d from low. is_at_most (place_at refs (get_or order k d)) at (before k d low),
  λ k d over low. lt-leb (place_at refs (get_or order k d)) at (let up : at + 1 ≤ place_at refs (get_or order k d) = on_from refs order (at + 1) to k d sorted (λ e l. let first : at < place_at refs (get_or order to e) = behind e l in omega (arith, first)) over low in omega (arith, up)),
)
