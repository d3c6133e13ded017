-- The least of the names that have two.
use Rattle.std.proofs.Common.{◌≡◌, ℕ, ◌+◌, ◌<◌, ◌⊎◌, Bool, true, false, List, refl, sym, ap, subst, ◌∙◌, inl, inr, arith, Some, None}
use Rattle.std.specs.Prelude.{Option, IsSome, if◌then◌else◌}
use Rattle.std.specs.Ordering.{nat_cmp, is_gt, ordering_reverse}
use Rattle.std.specs.declared.cmp.Ordering.{Ordering}
use Rattle.std.specs.declared.cmp.Ordering.TheVariants.{Less, Equal, Greater}
use Rattle.std.specs.Cmp.Lexicographic.{slice_cmp}
use Rattle.std.proofs.lemmas.Bool.{cases_lt}
use Rattle.std.proofs.lemmas.Cmp.{nat_list_cmp_total, tied_itself, upto}
use Rattle.symbol_winners.specs.declared.firsts.Firsts.{Firsts}
use Rattle.symbol_winners.specs.inner.Tables.{IsLeast, IsLeastOf, better_of, name_at, pair_at}

abbrev UpTo : List ℕ → List ℕ → Type 0
UpTo a b = is_gt (slice_cmp nat_cmp a b) ≡ false

itself : (a : List ℕ) → UpTo a a
itself a = ap is_gt (tied_itself nat_list_cmp_total a)

turned : (o : Ordering) → is_gt (ordering_reverse o) ≡ true → is_gt o ≡ false
turned Less e = refl
turned Equal e = cc
turned Greater e = cc

after : (a b : List ℕ) → is_gt (slice_cmp nat_cmp b a) ≡ true → UpTo a b
after a b e = turned (slice_cmp nat_cmp a b) (ap is_gt (sym (nat_list_cmp_total.antisymm b a)) ∙ e)

absurd_some : {X : Type 0} (x : Option X) → x ≡ None → IsSome x → ⊥
absurd_some None e some = cc
absurd_some (Some y) e some = cc

below : (k i : ℕ) → k < i + 1 → (k < i) ⊎ (k ≡ i)
below k i low = elim (cases_lt k i) [
  | inl less ↦ inl less
  | inr not_less ↦ inr (omega (arith, low, not_less))
]

pub least_start : (names : List (List ℕ)) (table : List Firsts) → IsLeastOf names table 0 None
least_start names table = record { none = λ k low. absurd (omega (arith, low)) }

pub least_pass : (names : List (List ℕ)) (table : List Firsts) (i : ℕ) (best : Option ℕ) → pair_at table i ≡ None → IsLeastOf names table i best → IsLeastOf names table (i + 1) best
least_pass names table i None none is = record {
  none = λ k low. elim (below k i low) [
    | inl less ↦ is.none k less
    | inr same ↦ subst (λ (n : ℕ). pair_at table n ≡ None) (sym same) none
  ];
}
least_pass names table i (Some b) none is = record {
  within = let w : b < i = is.within in omega (arith, w);
  two = is.two;
  least = λ k low some. elim (below k i low) [
    | inl less ↦ is.least k less some
    | inr same ↦ absurd (absurd_some (pair_at table i) none (subst (λ (n : ℕ). IsSome (pair_at table n)) same some))
  ];
}

pub least_more : (names : List (List ℕ)) (table : List Firsts) (i : ℕ) (best : Option ℕ) → IsSome (pair_at table i) → IsLeastOf names table i best → IsLeastOf names table (i + 1) (Some (better_of names best i))
unfolding better_of
least_more names table i None some is = record {
  within = omega arith;
  two = some;
  least = λ k low other. elim (below k i low) [
    | inl less ↦ absurd (absurd_some (pair_at table k) (is.none k less) other)
    | inr same ↦ subst (λ (n : ℕ). UpTo (name_at names i) (name_at names n)) (sym same) (itself (name_at names i))
  ];
}
least_more names table i (Some b) some is = by (is_gt (slice_cmp nat_cmp (name_at names b) (name_at names i))) refl
  where
    by : (g : Bool) → is_gt (slice_cmp nat_cmp (name_at names b) (name_at names i)) ≡ g → IsLeast names table (i + 1) (if is_gt (slice_cmp nat_cmp (name_at names b) (name_at names i)) then i else b)
    by true gt = rw gt (record {
      within = omega arith;
      two = some;
      least = λ k low other. elim (below k i low) [
        | inl less ↦ upto nat_list_cmp_total (name_at names i) (name_at names b) (name_at names k) (after (name_at names i) (name_at names b) gt) (is.least k less other)
        | inr same ↦ subst (λ (n : ℕ). UpTo (name_at names i) (name_at names n)) (sym same) (itself (name_at names i))
      ];
    })
    by false le = rw le (record {
      within = let w : b < i = is.within in omega (arith, w);
      two = is.two;
      least = λ k low other. elim (below k i low) [
        | inl less ↦ is.least k less other
        | inr same ↦ subst (λ (n : ℕ). UpTo (name_at names b) (name_at names n)) (sym same) le
      ];
    })

pub ruleset leasts = (least_start, least_pass, least_more)
