-- What a search by a number finds among elements whose numbers rise.
use Rattle.std.proofs.Common.{◌≡◌, ℕ, zero, suc, ◌<◌, ◌≤◌, ◌⊎◌, ◌==◌, Bool, true, false, List, [], ◌∷◌, Some, None, length, get_or, find, refl, sym, ap, ◌∙◌, inl, inr, arith, eqb-true, eq-eqb}
use Rattle.std.specs.List.Sorted.{IsStrictlySortedBy, IsNonDecreasingBy, IsPartitionPoint}
use Rattle.std.specs.declared.cmp.Ordering.TheVariants.{Less, Equal, Greater}
use Rattle.std.specs.Ordering.{nat_cmp, on, ordering_index}
use Rattle.std.proofs.lemmas.Bool.{cases_lt}
use Rattle.std.proofs.lemmas.Cmp.{nat_cmp_total, on_total, tied_itself}
use Rattle.std.proofs.lemmas.List.Sorted.{searchable_from_sorted}
use Rattle.list_lemmas.proofs.Members.{all_at}
use Rattle.list_lemmas.proofs.Rising.{sorted_from_rising}

below_is_other : (p q : ℕ) → nat_cmp p q ≡ Less → (p == q) ≡ false
below_is_other p q less = by (p == q) refl
  where
    by : (b : Bool) → (p == q) ≡ b → (p == q) ≡ false
    by true e = let same : p ≡ q = eqb-true p q e in absurd (let s : nat_cmp p p ≡ Less = ap (nat_cmp p) same ∙ less in let t = sym (tied_itself nat_cmp_total p) ∙ s in cc)
    by false e = e

pub found : {X : Type 0} (n : X → ℕ) (xs : List X) (k at : ℕ) (d : X) → IsStrictlySortedBy (on n nat_cmp) xs → at < length xs → n (get_or xs at d) ≡ k → find (λ x. n x == k) xs ≡ Some (get_or xs at d)
unfolding IsStrictlySortedBy
found n [] k at d h within is = absurd (omega (arith, within))
found n (x ∷ xs) k zero d h within is = let here : (n x == k) ≡ true = eq-eqb (n x) k is in rw here refl
found {X = X} n (x ∷ xs) k (suc at) d h within is =
    let less : nat_cmp (n x) (n (get_or xs at d)) ≡ Less = all_at (λ (y : X). nat_cmp (n x) (n y) ≡ Less) xs at d h.0 (omega (arith, within)) in
    let away : (n x == k) ≡ false = below_is_other (n x) k (ap (nat_cmp (n x)) (sym is) ∙ less) in
    rw away (found n xs k at d h.1 (omega (arith, within)) is)

pub not_there : {X : Type 0} (n : X → ℕ) (xs : List X) (k : ℕ) → ((j : ℕ) (d : X) → j < length xs → nat_cmp (n (get_or xs j d)) k ≡ Equal → ⊥) → find (λ x. n x == k) xs ≡ None
not_there n [] k none = refl
not_there {X = X} n (x ∷ xs) k none = by (not_there n xs k (λ j d within. none (suc j) d (omega (arith, within)))) (n x == k) refl
  where
    by : find (λ (y : X). n y == k) xs ≡ None → (b : Bool) → (n x == k) ≡ b → find (λ (y : X). n y == k) (x ∷ xs) ≡ None
    by rest true e = absurd (none 0 x (omega arith) (ap (nat_cmp (n x)) (sym (eqb-true (n x) k e)) ∙ tied_itself nat_cmp_total (n x)))
    by rest false e = rw e rest

less_or_equal : Less ≡ Equal → ⊥
less_or_equal e = cc

greater_or_equal : Greater ≡ Equal → ⊥
greater_or_equal e = cc

pub missing : {X : Type 0} (n : X → ℕ) (xs : List X) (k at : ℕ) → IsStrictlySortedBy (on n nat_cmp) xs → (IsNonDecreasingBy (λ x. ordering_index (nat_cmp (n x) k)) xs → IsPartitionPoint (λ x. nat_cmp (n x) k ≡ Less) (λ x. nat_cmp (n x) k ≡ Greater) xs at) → find (λ x. n x == k) xs ≡ None
missing {X = X} n xs k at rises parted = not_there n xs k apart
  where
    parts : IsPartitionPoint (λ (x : X). nat_cmp (n x) k ≡ Less) (λ (x : X). nat_cmp (n x) k ≡ Greater) xs at
    parts = parted (searchable_from_sorted nat_cmp_total n xs k (sorted_from_rising (on_total n nat_cmp_total) xs rises))

    apart : (j : ℕ) (d : X) → j < length xs → nat_cmp (n (get_or xs j d)) k ≡ Equal → ⊥
    apart j d within equal = where_is (cases_lt j at)
      where
        where_is : (j < at) ⊎ (at ≤ j) → ⊥
        where_is (inl down) = let less = parts.0 j d (omega (arith, within)) down in less_or_equal (sym less ∙ equal)
        where_is (inr up) = let greater = parts.1 j d up within in greater_or_equal (sym greater ∙ equal)
