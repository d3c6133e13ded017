-- Whether an atom is one of a list.
use Rattle.std.proofs.Common.{◌≡◌, ℕ, Bool, true, false, List, refl, sym, ap, subst, ◌∙◌, inl, inr, Contains}
use Rattle.std.specs.Prelude.{◌≢◌, All, MatchOption, Option, Some, None, is_some}
use Rattle.std.specs.List.{dedup}
use Rattle.std.specs.List.Sorted.{IsPermutation, IsSorted, IsStrictlySortedBy}
use Rattle.std.specs.Cmp.{IsEquivalence}
use Rattle.std.specs.Ordering.{eq_by_cmp, is_eq, on}
use Rattle.std.proofs.lemmas.Bool.{cases_Bool}
use Rattle.std.proofs.lemmas.Cmp.{tied_itself}
use Rattle.std.proofs.lemmas.List.Kept.{Contains-dedup, Contains-from_dedup, IsStrictlySortedBy-dedup}
use Rattle.std.proofs.lemmas.List.Sorted.{Contains-permutation, IsPermutation-sym}
use Rattle.list_lemmas.proofs.Members.{In, Contains_from_in, any_from_in, any_true, in_from_Contains}
use Rattle.list_lemmas.proofs.Rising.{sorted_from_rising}
use Rattle.mo_types.specs.declared.key.AtomKey.{AtomKey}
use Rattle.mo_types.specs.Keys.{compare_keys}
use Rattle.mo_types.proofs.KeyOrder.{compare_keys_total}
use Rattle.atom_index.specs.Stands.{StandsAt}
use Rattle.atom_index.proofs.Keys.{is_equal, same_key}
use Rattle.mark_core.specs.Kept.{has, same_atom}
use Rattle.mark_core.proofs.KeyLemmas.{itself, same_atoms}

pub in_from_has : (atoms : List AtomKey) (atom : AtomKey) → has atoms atom ≡ true → In atom atoms
in_from_has atoms atom e =
    let found : (x : AtomKey) × In x atoms × (is_eq (compare_keys x atom) ≡ true) = any_true (λ other. is_eq (compare_keys other atom)) atoms e in
    subst (λ (k : AtomKey). In k atoms) (same_key found.0 atom (is_equal (compare_keys found.0 atom) found.2)) found.1

pub has_from_in : (atoms : List AtomKey) (atom : AtomKey) → In atom atoms → has atoms atom ≡ true
has_from_in atoms atom h = any_from_in (λ other. is_eq (compare_keys other atom)) atoms atom h (ap is_eq (tied_itself compare_keys_total atom))

-- lists with the same members have the same atoms
same_answer : (a b : Bool) → (a ≡ true → b ≡ true) → (b ≡ true → a ≡ true) → a ≡ b
same_answer true true f g = refl
same_answer true false f g = sym (f refl)
same_answer false true f g = g refl
same_answer false false f g = refl

pub same_has : (xs ys : List AtomKey) (atom : AtomKey) → (Contains xs atom → Contains ys atom) → (Contains ys atom → Contains xs atom) → has xs atom ≡ has ys atom
same_has xs ys atom f g =
    same_answer (has xs atom) (has ys atom)
    (λ e. has_from_in ys atom (in_from_Contains ys atom (f (Contains_from_in xs atom (in_from_has xs atom e)))))
    (λ e. has_from_in xs atom (in_from_Contains xs atom (g (Contains_from_in ys atom (in_from_has ys atom e)))))

-- ---- what a search among keys that rise found

pub in_order : (keys : List AtomKey) → IsStrictlySortedBy compare_keys keys → IsSorted (on (λ (key : AtomKey). key) compare_keys) keys
in_order keys rises = sorted_from_rising compare_keys_total keys rises

pub stands_has : (keys : List AtomKey) (key : AtomKey) (at : ℕ) → StandsAt (λ (key : AtomKey). key) keys key at → true ≡ has keys key
stands_has keys key at stands = sym (has_from_in keys key (in_from_Contains keys key (at, stands.within, stands.of_atom key)))

pub none_has : (keys : List AtomKey) (key : AtomKey) → All (λ other. other ≢ key) keys → false ≡ has keys key
none_has keys key none = elim (cases_Bool (has keys key)) [
  | inl here ↦ let there : Contains keys key = Contains_from_in keys key (in_from_has keys key here) in absurd (none there.0 key there.1 there.2)
  | inr away ↦ sym away
]

pub found_has : (keys : List AtomKey) (key : AtomKey) (found : Option ℕ) → MatchOption found (All (λ other. other ≢ key) keys) (StandsAt (λ key. key) keys key) → is_some found ≡ has keys key
found_has keys key None none = none_has keys key none
found_has keys key (Some at) stands = stands_has keys key at stands

-- ---- atoms in order, each once

equivalence : IsEquivalence same_atom
equivalence = record {
  refl = itself;
  symm = λ a b. same_answer (same_atom a b) (same_atom b a)
      (λ e. subst (λ (k : AtomKey). same_atom k a ≡ true) (same_atoms a b e) (itself a))
      (λ e. subst (λ (k : AtomKey). same_atom k b ≡ true) (same_atoms b a e) (itself b));
  congr = λ a b c e. ap (λ (k : AtomKey). same_atom k c) (same_atoms a b e);
}

ties : (x y : AtomKey) → same_atom x y ≡ eq_by_cmp compare_keys x y
ties x y =
    same_answer (same_atom x y) (eq_by_cmp compare_keys x y)
    (λ e. subst (λ (k : AtomKey). eq_by_cmp compare_keys x k ≡ true) (same_atoms x y e) (ap is_eq (tied_itself compare_keys_total x)))
    (λ e. subst (λ (k : AtomKey). same_atom x k ≡ true) (same_key x y (is_equal (compare_keys x y) e)) (itself x))

pub once_has : (atoms sorted keys : List AtomKey) → IsPermutation atoms sorted → keys ≡ dedup same_atom sorted → (atom : AtomKey) → has keys atom ≡ has atoms atom
once_has atoms sorted keys moved is atom =
    ap (λ (ks : List AtomKey). has ks atom) is
    ∙ same_has (dedup same_atom sorted) atoms atom
    (λ h. Contains-permutation sorted atoms atom (IsPermutation-sym atoms sorted moved) (Contains-from_dedup same_atom sorted atom h))
    (λ h. Contains-dedup equivalence same_atoms sorted atom (Contains-permutation atoms sorted atom moved h))

pub once_rises : (sorted keys : List AtomKey) → IsSorted compare_keys sorted → keys ≡ dedup same_atom sorted → IsStrictlySortedBy compare_keys keys
once_rises sorted keys up is = subst (λ (ks : List AtomKey). IsStrictlySortedBy compare_keys ks) (sym is) (IsStrictlySortedBy-dedup compare_keys_total ties sorted up)
