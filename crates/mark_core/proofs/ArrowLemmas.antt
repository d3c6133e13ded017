-- Arrows by rising source, and those from one atom.
use Rattle.std.proofs.Common.{◌≡◌, ℕ, ◌+◌, ◌-◌, ◌<◌, ◌≤◌, ◌⊎◌, Bool, true, false, List, [], ◌∷◌, ◌++◌, map, if◌then◌else◌, length, take, drop, get_or, Contains, refl, sym, ap, ◌∙◌, inl, inr, arith, length-drop, length-take}
use Rattle.std.specs.List.Sorted.{IsNonDecreasingBy, IsPartitionedBy, IsPartitionPoint, IsSorted}
use Rattle.std.specs.Ordering.{is_le, is_lt, ordering_index, ordering_then}
use Rattle.std.specs.declared.cmp.Ordering.{Ordering}
use Rattle.std.specs.declared.cmp.Ordering.TheVariants.{Less, Equal, Greater}
use Rattle.std.proofs.lemmas.Bool.{cases_lt}
use Rattle.std.proofs.lemmas.Cmp.{tied_itself}
use Rattle.std.specs.List.{filter}
use Rattle.std.proofs.lemmas.List.{get_or-drop, get_or-take, map-append, take_all, take_more}
use Rattle.std.proofs.lemmas.List.Elements.{filter-append}
use Rattle.std.proofs.lemmas.List.Sorted.{searchable_from_sorted}
use Rattle.mo_types.specs.declared.edge.Edge.{Edge}
use Rattle.mo_types.specs.declared.key.AtomKey.{AtomKey}
use Rattle.mo_types.specs.Keys.{compare_keys}
use Rattle.mo_types.proofs.KeyOrder.{compare_keys_total}
use Rattle.mark_core.specs.inner.Arrows.{AreFrom, AreSorted, begins_in, end_of, ends_from, is_before, is_up_to}
use Rattle.atom_index.proofs.Keys.{same_key}

-- ---- order

first_not_less : (r s : Ordering) → is_lt (ordering_then r s) ≡ false → is_lt r ≡ false
first_not_less Less s e = e
first_not_less Equal s e = refl
first_not_less Greater s e = refl

-- the derived order of edges
abbrev compare_edges : Edge → Edge → Ordering
compare_edges a b = ordering_then (compare_keys a.from b.from) (compare_keys a.to b.to)

pub by_sources : (all : List Edge) → IsSorted compare_edges all → AreSorted all
by_sources all sorted = record { sources = λ k d low high. first_not_less (compare_keys (get_or all (k + 1) d).from (get_or all k d).from) (compare_keys (get_or all (k + 1) d).to (get_or all k d).to) (sorted k d low high) }

rises : (all : List Edge) (key : AtomKey) → AreSorted all → IsNonDecreasingBy (λ (arrow : Edge). ordering_index (compare_keys arrow.from key)) all
rises all key sorted = searchable_from_sorted compare_keys_total (λ (arrow : Edge). arrow.from) all key sorted.sources

less_down : (r s : Ordering) → ordering_index r ≤ ordering_index s → is_lt s ≡ true → is_lt r ≡ true
less_down Less s low e = refl
less_down Equal Less low e = absurd (omega arith)
less_down Greater Less low e = absurd (omega arith)
less_down Equal Equal low e = cc
less_down Equal Greater low e = cc
less_down Greater Equal low e = cc
less_down Greater Greater low e = cc

not_after_down : (r s : Ordering) → ordering_index r ≤ ordering_index s → is_le s ≡ true → is_le r ≡ true
not_after_down Less s low e = refl
not_after_down Equal s low e = refl
not_after_down Greater Less low e = absurd (omega arith)
not_after_down Greater Equal low e = absurd (omega arith)
not_after_down Greater Greater low e = cc

pub before_parted : (key : AtomKey) (all : List Edge) → AreSorted all → IsPartitionedBy (is_before key) all
before_parted key all sorted = λ i j d low high e. less_down (compare_keys (get_or all i d).from key) (compare_keys (get_or all j d).from key) (rises all key sorted i j d low high) e

pub up_to_parted : (key : AtomKey) (all : List Edge) → AreSorted all → IsPartitionedBy (is_up_to key) all
up_to_parted key all sorted = λ i j d low high e. not_after_down (compare_keys (get_or all i d).from key) (compare_keys (get_or all j d).from key) (rises all key sorted i j d low high) e

-- ---- the arrows from an atom

abbrev Before : List Edge → AtomKey → ℕ → Type 0
Before all key at = IsPartitionPoint (λ arrow. is_before key arrow ≡ true) (λ arrow. is_before key arrow ≡ false) all at

abbrev UpTo : List Edge → AtomKey → ℕ → Type 0
UpTo all key at = IsPartitionPoint (λ arrow. is_up_to key arrow ≡ true) (λ arrow. is_up_to key arrow ≡ false) all at

not_both : (r : Ordering) → is_lt r ≡ true → is_le r ≡ false → ⊥
not_both Less e f = cc
not_both Equal e f = cc
not_both Greater e f = cc

pub in_order : (all : List Edge) (key : AtomKey) (from to : ℕ) → from ≤ length all → Before all key from → UpTo all key to → from ≤ to
in_order all key from to low before up = by (cases_lt to from)
  where
    none : Edge
    none = record { from = key; to = key }

    by : (to < from) ⊎ (from ≤ to) → from ≤ to
    by (inl h) = absurd (not_both (compare_keys (get_or all to none).from key) (before.0 to none (omega arith) h) (up.1 to none (omega arith) (omega arith)))
    by (inr h) = h

equal : (r : Ordering) → is_lt r ≡ false → is_le r ≡ true → r ≡ Equal
equal Less e f = cc
equal Equal e f = refl
equal Greater e f = cc

not_less : (r : Ordering) → r ≡ Equal → is_lt r ≡ true → ⊥
not_less r e f = let g : is_lt Equal ≡ true = ap is_lt (sym e) ∙ f in cc

not_after : (r : Ordering) → r ≡ Equal → is_le r ≡ false → ⊥
not_after r e f = let g : is_le Equal ≡ false = ap is_le (sym e) ∙ f in cc

at_place : (all : List Edge) (from to j : ℕ) (d : Edge) → j < to - from → get_or (take (to - from) (drop from all)) j d ≡ get_or all (from + j) d
at_place all from to j d low = get_or-take (to - from) (drop from all) j d low ∙ get_or-drop from all j d

count : (all : List Edge) (from to : ℕ) → to ≤ length all → length (take (to - from) (drop from all)) ≡ to - from
count all from to high = simp (length-take, length-drop) (omega arith)

each_is : (all : List Edge) (key : AtomKey) (from to : ℕ) → to ≤ length all → Before all key from → UpTo all key to → (arrow : Edge) → Contains all arrow → arrow.from ≡ key → Contains (take (to - from) (drop from all)) arrow
each_is all key from to high before up arrow (k, low, is) same = by (cases_lt k from) (cases_lt k to)
  where
    tied : compare_keys (get_or all k arrow).from key ≡ Equal
    tied = ap (λ (e : Edge). compare_keys e.from key) is ∙ ap (λ (a : AtomKey). compare_keys a key) same ∙ tied_itself compare_keys_total key

    there : from ≤ k → k < to → Contains (take (to - from) (drop from all)) arrow
    there above below =
        let size : length (take (to - from) (drop from all)) ≡ to - from = count all from to high in
        let place : from + (k - from) ≡ k = omega arith in
        (k - from, omega arith, at_place all from to (k - from) arrow (omega arith) ∙ ap (λ n. get_or all n arrow) place ∙ is)

    by : (k < from) ⊎ (from ≤ k) → (k < to) ⊎ (to ≤ k) → Contains (take (to - from) (drop from all)) arrow
    by (inl h) other = absurd (not_less (compare_keys (get_or all k arrow).from key) tied (before.0 k arrow (omega arith) h))
    by (inr h) (inl g) = there h g
    by (inr h) (inr g) = absurd (not_after (compare_keys (get_or all k arrow).from key) tied (up.1 k arrow g low))

only_are : (all : List Edge) (key : AtomKey) (from to : ℕ) → to ≤ length all → Before all key from → UpTo all key to → (arrow : Edge) → Contains (take (to - from) (drop from all)) arrow → Contains all arrow × (arrow.from ≡ key)
only_are all key from to high before up arrow (j, low, is) =
    let size : length (take (to - from) (drop from all)) ≡ to - from = count all from to high in
    let short : j < to - from = omega arith in
    let here : get_or all (from + j) arrow ≡ arrow = sym (at_place all from to j arrow short) ∙ is in
    let tied : compare_keys (get_or all (from + j) arrow).from key ≡ Equal = equal (compare_keys (get_or all (from + j) arrow).from key) (before.1 (from + j) arrow (omega arith) (omega arith)) (up.0 (from + j) arrow (omega arith) (omega arith)) in
    ((from + j, omega arith, here), ap (λ (e : Edge). e.from) (sym here) ∙ same_key (get_or all (from + j) arrow).from key tied)

pub from_points : (all : List Edge) (key : AtomKey) (from to : ℕ) → to ≤ length all → Before all key from → UpTo all key to → AreFrom all key (take (to - from) (drop from all))
from_points all key from to high before up = record {
  each = each_is all key from to high before up;
  only = only_are all key from to high before up;
}

-- ---- where arrows from roots end

if_passes : (p : Edge → Bool) (arrow : Edge) (b : Bool) → p arrow ≡ b → map end_of (filter p (arrow ∷ [])) ≡ (if b then end_of arrow ∷ [] else [])
if_passes p arrow true e = rw e refl
if_passes p arrow false e = rw e refl

pub end_more : (roots : List AtomKey) (arrows : List Edge) (now new : List AtomKey) (i : ℕ) (d arrow : Edge) (is_root : Bool) → i < length arrows → arrow ≡ get_or arrows i d → now ≡ map end_of (filter (begins_in roots) (take i arrows)) → is_root ≡ begins_in roots arrow
    → new ≡ now ++ (if is_root then end_of arrow ∷ [] else []) → new ≡ map end_of (filter (begins_in roots) (take (i + 1) arrows))
end_more roots arrows now new i d arrow is_root low there are root more =
    more
    ∙ ap (λ (ks : List AtomKey). ks ++ (if is_root then end_of arrow ∷ [] else [])) are
    ∙ ap (λ (ks : List AtomKey). map end_of (filter (begins_in roots) (take i arrows)) ++ ks) (sym (if_passes (begins_in roots) arrow is_root (sym root)))
    ∙ sym (map-append end_of (filter (begins_in roots) (take i arrows)) (filter (begins_in roots) (arrow ∷ [])))
    ∙ ap (map end_of) (sym (filter-append (begins_in roots) (take i arrows) (arrow ∷ [])))
    ∙ ap (λ (es : List Edge). map end_of (filter (begins_in roots) es)) (sym (take_more arrows i d low ∙ ap (λ (e : Edge). take i arrows ++ e ∷ []) (sym there)))

pub all_ends : (roots : List AtomKey) (arrows : List Edge) (now : List AtomKey) (i : ℕ) → now ≡ map end_of (filter (begins_in roots) (take i arrows)) → length arrows ≤ i → now ≡ ends_from roots arrows
unfolding ends_from
all_ends roots arrows now i are past = are ∙ ap (λ (es : List Edge). map end_of (filter (begins_in roots) es)) (take_all i arrows past)
