-- Names in order, and the exports of names.
use Rattle.std.proofs.Common.{◌≡◌, ℕ, ◌<◌, ◌≤◌, ◌⊎◌, Bool, true, false, List, [], ◌∷◌, length, map, get_or, refl, sym, ap, subst, ◌∙◌, inl, inr, arith, Contains, IsPermutation}
use Rattle.std.specs.Prelude.{nat_eq}
use Rattle.std.specs.List.{dedup, list_any, AllByRecursion, HoldsAt}
use Rattle.std.specs.List.Sorted.{IsStrictlySortedBy, IsSorted, IsNonDecreasingBy, IsPartitionPoint}
use Rattle.std.specs.declared.cmp.Ordering.{Ordering}
use Rattle.std.specs.declared.cmp.Ordering.TheVariants.{Less, Equal, Greater}
use Rattle.std.specs.Ordering.{nat_cmp, match_ordering, is_eq, ordering_index, ordering_reverse}
use Rattle.std.specs.Cmp.{both_ways}
use Rattle.std.specs.Cmp.Lexicographic.{slice_cmp, pointwise, nat_list_cmp_total, nat_list_eq_equiv, texts_ties}
use Rattle.std.specs.Str.{bytes_eq}
use Rattle.std.proofs.lemmas.Bool.{cases_lt}
use Rattle.std.proofs.lemmas.Cmp.{tied_itself}
use Rattle.std.proofs.lemmas.Slice.Eq.{bytes_eq-Decides}
use Rattle.std.proofs.lemmas.List.Kept.{IsStrictlySortedBy-dedup, Contains-dedup, Contains-from_dedup}
use Rattle.std.proofs.lemmas.List.Sorted.{Contains-permutation, IsPermutation-sym, searchable_from_sorted}
use Rattle.list_lemmas.proofs.Members.{In, in_from_Contains, Contains_from_in, in_map, from_map, all_in, all_from_in, all_map, any_true, any_from_in}
use Rattle.list_lemmas.proofs.Rising.{rising_same, sorted_from_rising}
use Rattle.tbd_doc.specs.declared.stub.Export.{Export}
use Rattle.tbd_doc.specs.Exports.{with_name, in_order, export_among, exports_of, AreInOrder, AreExports}

abbrev below : List ℕ → List ℕ → Ordering
below = slice_cmp nat_cmp

same_text : (x y : List ℕ) → bytes_eq x y ≡ true → x ≡ y
same_text x y e = (bytes_eq-Decides x y).0 e

itself : (x y : List ℕ) → x ≡ y → bytes_eq x y ≡ true
itself x y e = (bytes_eq-Decides x y).1 e

tied : (x y : List ℕ) → below x y ≡ Equal → x ≡ y
tied x y e = same_text x y (texts_ties x y ∙ ap is_eq e)

-- The members of names in order.

from_step : (o : Ordering) (name other m : List ℕ) (others rest : List (List ℕ)) → (In m rest → (name ≡ m) ⊎ In m others)
    → In m (match_ordering o (name ∷ other ∷ others) (other ∷ others) (other ∷ rest)) → (name ≡ m) ⊎ In m (other ∷ others)
from_step Less name other m others rest later h = h
from_step Equal name other m others rest later h = inr h
from_step Greater name other m others rest later (inl e) = inr (inl e)
from_step Greater name other m others rest later (inr h) = elim (later h) [ inl e ↦ inl e | inr i ↦ inr (inr i) ]

from_with : (name m : List ℕ) (names : List (List ℕ)) → In m (with_name name names) → (name ≡ m) ⊎ In m names
from_with name m [] h = h
from_with name m (other ∷ others) h = from_step (below name other) name other m others (with_name name others) (from_with name m others) h

to_step : (o : Ordering) (name other m : List ℕ) (others rest : List (List ℕ)) → (o ≡ Equal → name ≡ other) → ((name ≡ m) ⊎ In m others → In m rest)
    → (name ≡ m) ⊎ In m (other ∷ others) → In m (match_ordering o (name ∷ other ∷ others) (other ∷ others) (other ∷ rest))
to_step Less name other m others rest same later h = h
to_step Equal name other m others rest same later (inl e) = inl (sym (same refl) ∙ e)
to_step Equal name other m others rest same later (inr h) = h
to_step Greater name other m others rest same later (inl e) = inr (later (inl e))
to_step Greater name other m others rest same later (inr (inl e)) = inl e
to_step Greater name other m others rest same later (inr (inr h)) = inr (later (inr h))

to_with : (name m : List ℕ) (names : List (List ℕ)) → (name ≡ m) ⊎ In m names → In m (with_name name names)
to_with name m [] h = h
to_with name m (other ∷ others) h = to_step (below name other) name other m others (with_name name others) (tied name other) (to_with name m others) h

pub from_order : (names : List (List ℕ)) (m : List ℕ) → In m (in_order names) → In m names
from_order [] m h = h
from_order (name ∷ names) m h = elim (from_with name m (in_order names) h) [ inl e ↦ inl e | inr i ↦ inr (from_order names m i) ]

pub to_order : (names : List (List ℕ)) (m : List ℕ) → In m names → In m (in_order names)
to_order [] m h = h
to_order (name ∷ names) m (inl e) = to_with name m (in_order names) (inl e)
to_order (name ∷ names) m (inr h) = to_with name m (in_order names) (inr (to_order names m h))

-- They rise.

all_with : (P : List ℕ → Type 0) (name : List ℕ) (names : List (List ℕ)) → P name → AllByRecursion P names → AllByRecursion P (with_name name names)
all_with P name names here all = all_from_in P (with_name name names) (λ m h. elim (from_with name m names h) [ inl e ↦ subst P e here | inr i ↦ all_in P names m all i ])

further : (name other : List ℕ) (others : List (List ℕ)) → below name other ≡ Less → AllByRecursion (λ x. below other x ≡ Less) others → AllByRecursion (λ x. below name x ≡ Less) others
further name other [] less all = tt
further name other (x ∷ xs) less all = (nat_list_cmp_total.trans name other x less all.0, further name other xs less all.1)

turned : (name other : List ℕ) → below name other ≡ Greater → below other name ≡ Less
turned name other e = nat_list_cmp_total.antisymm other name ∙ ap ordering_reverse e

rise_step : (o : Ordering) (name other : List ℕ) (others : List (List ℕ)) → below name other ≡ o → IsStrictlySortedBy below (other ∷ others) → IsStrictlySortedBy below (with_name name others)
    → IsStrictlySortedBy below (match_ordering o (name ∷ other ∷ others) (other ∷ others) (other ∷ with_name name others))
unfolding IsStrictlySortedBy
rise_step Less name other others e rises later = ((e, further name other others e rises.0), rises)
rise_step Equal name other others e rises later = rises
rise_step Greater name other others e rises later = (all_with (λ x. below other x ≡ Less) name others (turned name other e) rises.0, later)

with_rises : (name : List ℕ) (names : List (List ℕ)) → IsStrictlySortedBy below names → IsStrictlySortedBy below (with_name name names)
unfolding IsStrictlySortedBy
with_rises name [] rises = (tt, tt)
with_rises name (other ∷ others) rises = rise_step (below name other) name other others refl rises (with_rises name others rises.1)

pub order_rises : (names : List (List ℕ)) → IsStrictlySortedBy below (in_order names)
unfolding IsStrictlySortedBy
order_rises [] = tt
order_rises (name ∷ names) = with_rises name (in_order names) (order_rises names)

-- Names that are sorted and then left once each.

pub ordered : (old sorted new : List (List ℕ)) → IsPermutation old sorted → IsSorted below sorted → new ≡ dedup (pointwise nat_eq) sorted → new ≡ in_order old
ordered old sorted new moved up is =
    is ∙ rising_same nat_list_cmp_total (dedup (pointwise nat_eq) sorted) (in_order old)
    (IsStrictlySortedBy-dedup nat_list_cmp_total texts_ties sorted up) (order_rises old)
    (λ m h. to_order old m (in_from_Contains old m (Contains-permutation sorted old m (IsPermutation-sym old sorted moved)
    (Contains-from_dedup (pointwise nat_eq) sorted m (Contains_from_in (dedup (pointwise nat_eq) sorted) m h)))))
    (λ m h. in_from_Contains (dedup (pointwise nat_eq) sorted) m (Contains-dedup nat_list_eq_equiv same_text sorted m
    (Contains-permutation old sorted m moved (Contains_from_in old m (from_order old m h)))))

-- A look-up.

pub among : (names : List (List ℕ)) (name : List ℕ) (at : ℕ) → at < length names → HoldsAt (λ x. below x name ≡ Equal) names at → true ≡ list_any (bytes_eq name) names
among names name at within holds =
    let same : get_or names at name ≡ name = tied (get_or names at name) name (holds name) in
    sym (any_from_in (bytes_eq name) names name (in_from_Contains names name (at, within, same)) (itself name name refl))

less_equal : Less ≡ Equal → ⊥
less_equal e = cc

greater_equal : Greater ≡ Equal → ⊥
greater_equal e = cc

pub not_among : (names : List (List ℕ)) (name : List ℕ) (at : ℕ) → IsStrictlySortedBy below names
    → (IsNonDecreasingBy (λ x. ordering_index (below x name)) names → IsPartitionPoint (λ x. below x name ≡ Less) (λ x. below x name ≡ Greater) names at) → false ≡ list_any (bytes_eq name) names
not_among names name at rises parted = answer (list_any (bytes_eq name) names) refl
  where
    parts : IsPartitionPoint (λ x. below x name ≡ Less) (λ x. below x name ≡ Greater) names at
    parts = parted (searchable_from_sorted nat_list_cmp_total (λ x. x) names name (sorted_from_rising nat_list_cmp_total names rises))

    where_is : (k : ℕ) → k < length names → below (get_or names k name) name ≡ Equal → (k < at) ⊎ (at ≤ k) → ⊥
    where_is k within equal (inl down) = let less = parts.0 k name (omega arith) down in less_equal (sym less ∙ equal)
    where_is k within equal (inr up) = let greater = parts.1 k name up within in greater_equal (sym greater ∙ equal)

    missing : Contains names name → ⊥
    missing h = where_is h.0 h.1 (ap (λ x. below x name) h.2 ∙ tied_itself nat_list_cmp_total name) (cases_lt h.0 at)

    answer : (b : Bool) → list_any (bytes_eq name) names ≡ b → false ≡ b
    answer false e = refl
    answer true e =
        let there = any_true (bytes_eq name) names e in
        absurd (missing (subst (Contains names) (sym (same_text name there.0 there.2)) (Contains_from_in names there.0 there.1)))

-- a name is among names in order just where it is among them
pub any_in_order : (names : List (List ℕ)) (name : List ℕ) → list_any (bytes_eq name) (in_order names) ≡ list_any (bytes_eq name) names
any_in_order names name = both_ways (list_any (bytes_eq name) (in_order names)) (list_any (bytes_eq name) names)
    (λ e. let there = any_true (bytes_eq name) (in_order names) e in any_from_in (bytes_eq name) names there.0 (from_order names there.0 there.1) there.2)
    (λ e. let there = any_true (bytes_eq name) names e in any_from_in (bytes_eq name) (in_order names) there.0 (to_order names there.0 there.1) there.2)

same_exports : (weak other : List (List ℕ)) → ((name : List ℕ) → list_any (bytes_eq name) other ≡ list_any (bytes_eq name) weak) → (names : List (List ℕ)) → map (export_among other) names ≡ map (export_among weak) names
same_exports weak other same [] = refl
same_exports weak other same (name ∷ names) = rw (same name, same_exports weak other same names) refl

pub exports_made : (old_names old_weak names weak seen_names seen_weak : List (List ℕ)) (exports : List Export) → names ≡ in_order old_names → weak ≡ in_order old_weak → seen_names ≡ names → seen_weak ≡ weak
    → exports ≡ map (export_among seen_weak) seen_names → exports ≡ exports_of old_names old_weak
unfolding exports_of
exports_made old_names old_weak names weak seen_names seen_weak exports in_names in_weak same_names same_weak is =
    is ∙ ap (λ ws. map (export_among ws) seen_names) (same_weak ∙ in_weak) ∙ ap (map (export_among (in_order old_weak))) (same_names ∙ in_names)
    ∙ same_exports old_weak (in_order old_weak) (any_in_order old_weak) (in_order old_names)

pub weak_rises : (old weak seen : List (List ℕ)) → weak ≡ in_order old → seen ≡ weak → IsStrictlySortedBy below seen
weak_rises old weak seen is same = subst (IsStrictlySortedBy below) (sym (same ∙ is)) (order_rises old)

risen : (weak names : List (List ℕ)) → IsStrictlySortedBy below names → AreInOrder (map (export_among weak) names)
unfolding IsStrictlySortedBy
risen weak [] rises = tt
risen weak (name ∷ names) rises = (all_map (export_among weak) (λ export. below name export.name ≡ Less) names rises.0, risen weak names rises.1)

pub exports_in_order : (names weak : List (List ℕ)) → AreInOrder (exports_of names weak)
unfolding exports_of
exports_in_order names weak = risen weak (in_order names) (order_rises names)

from_exports : (names weak : List (List ℕ)) (export : Export) → Contains (exports_of names weak) export → (name : List ℕ) × In name names × (export_among weak name ≡ export)
unfolding exports_of
from_exports names weak export h =
    let there = from_map (export_among weak) (in_order names) export (in_from_Contains (map (export_among weak) (in_order names)) export h) in
    (there.0, from_order names there.0 there.1, there.2)

to_exports : (names weak : List (List ℕ)) (name : List ℕ) → Contains names name → Contains (exports_of names weak) (export_among weak name)
unfolding exports_of
to_exports names weak name h =
    Contains_from_in (map (export_among weak) (in_order names)) (export_among weak name)
    (in_map (export_among weak) (in_order names) name (to_order names name (in_from_Contains names name h)))

pub exports_are : (names weak : List (List ℕ)) → AreExports names weak (exports_of names weak)
exports_are names weak = record {
  order = exports_in_order names weak;
  all = λ name h. (export_among weak name, to_exports names weak name h, refl);
  only = λ export h. let there = from_exports names weak export h in subst (λ (e : Export). Contains names e.name) there.2 (Contains_from_in names there.0 there.1);
  strong = λ export h is.
      let there = from_exports names weak export h in
      let found = any_true (bytes_eq there.0) weak (ap (λ (e : Export). e.weak) there.2 ∙ is) in
      subst (λ (e : Export). Contains weak e.name) there.2 (subst (Contains weak) (sym (same_text there.0 found.0 found.2)) (Contains_from_in weak found.0 found.1));
  weakly = λ export h is.
      let there = from_exports names weak export h in
      sym (ap (λ (e : Export). e.weak) there.2)
      ∙ any_from_in (bytes_eq there.0) weak export.name (in_from_Contains weak export.name is) (itself there.0 export.name (ap (λ (e : Export). e.name) there.2));
}
