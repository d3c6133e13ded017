-- A sort that keeps what ties in its order keeps the references of each atom as they are listed.
use Rattle.std.proofs.Common.{◌≡◌, ℕ, ◌<◌, inl, inr, ◌&&◌, not, Bool, true, false, cond, List, [], ◌∷◌, refl, sym, ap, ◌∙◌, arith, nat_eq}
use Rattle.std.specs.Cmp.{IsTotalOrder, nat_cmp_is}
use Rattle.std.specs.List.{filter}
use Rattle.std.specs.List.Sorted.{IsStableBy, ties}
use Rattle.std.specs.Ordering.{is_lt, nat_cmp}
use Rattle.std.specs.declared.cmp.Ordering.TheVariants.{Less, Equal}
use Rattle.std.proofs.lemmas.Bool.{cases_eq, cases_lt, eq-eqb, ne_eqb}
use Rattle.std.proofs.lemmas.Cmp.{nat_cmp_total, on_total}
use Rattle.liveness.specs.declared.order.Spot.{Spot}
use Rattle.liveness.specs.Order.{place_of}
use Rattle.liveness.specs.inner.Spots.{compare_spots, is_of, place}

pub spots_total : IsTotalOrder compare_spots
spots_total = on_total place nat_cmp_total

and_none : (b : Bool) → (b && false) ≡ false
and_none true = refl
and_none false = refl

-- two numbers tie where they are one
tie : (p q : ℕ) → (not (is_lt (nat_cmp q p)) && not (is_lt (nat_cmp p q))) ≡ nat_eq p q
tie p q = elim (cases_eq p q) [
  | inl e ↦
      let back : q ≡ p = sym e in
      let first : Equal ≡ nat_cmp q p = nat_cmp_is q p Equal back in
      let second : Equal ≡ nat_cmp p q = nat_cmp_is p q Equal e in
      rw (sym first, sym second) (sym (eq-eqb p q e))
  | inr other ↦ elim (cases_lt p q) [
    | inl less ↦
        let is : Less ≡ nat_cmp p q = nat_cmp_is p q Less less in
        rw (sym is) (and_none (not (is_lt (nat_cmp q p))) ∙ sym (ne_eqb p q other))
    | inr up ↦
        let less : q < p = omega (arith, up, other) in
        let is : Less ≡ nat_cmp q p = nat_cmp_is q p Less less in
        rw (sym is) (sym (ne_eqb p q other))
  ]
]

-- a reference of an atom
abbrev first_of : ℕ → ℕ → Spot
first_of section offset = record { section = section; offset = offset; index = 0 }

tie_spot : (section offset : ℕ) (spot : Spot) → ties (λ a b. is_lt (compare_spots a b)) (first_of section offset) spot ≡ is_of section offset spot
unfolding place
tie_spot section offset spot = tie (place_of spot.section spot.offset) (place_of section offset)

alike : (p q : Spot → Bool) → ((x : Spot) → p x ≡ q x) → (xs : List Spot) → filter p xs ≡ filter q xs
alike p q same [] = refl
alike p q same (x ∷ xs) = ap (λ b. cond b (x ∷ filter p xs) (filter p xs)) (same x) ∙ ap (λ ys. cond (q x) (x ∷ ys) ys) (alike p q same xs)

pub listed : (section offset : ℕ) (old new : List Spot) → IsStableBy (λ a b. is_lt (compare_spots a b)) old new → filter (is_of section offset) new ≡ filter (is_of section offset) old
listed section offset old new stable =
    sym (alike (ties (λ a b. is_lt (compare_spots a b)) (first_of section offset)) (is_of section offset) (tie_spot section offset) new)
    ∙ stable (first_of section offset)
    ∙ alike (ties (λ a b. is_lt (compare_spots a b)) (first_of section offset)) (is_of section offset) (tie_spot section offset) old
