-- Sets of pairs: their members, and how many of them pass a test.
use Rattle.std.proofs.Common.{◌≡◌, ℕ, ◌+◌, ◌<◌, ◌≤◌, ◌⊎◌, ◌==◌, ◌&&◌, Bool, true, false, cond, List, [], ◌∷◌, ◌++◌, length, get_or, Contains, count_by, refl, sym, ap, subst, ◌∙◌, inl, inr, arith, Some, slice_get}
use Rattle.std.specs.List.{HoldsAt, dedup}
use Rattle.std.specs.List.Sorted.{IsNonDecreasingBy, IsPartitionPoint, IsPermutation, IsSorted, IsStrictlySortedBy}
use Rattle.std.specs.declared.cmp.Ordering.TheVariants.{Less, Equal, Greater}
use Rattle.std.specs.Cmp.{IsEquivalence, IsTotalOrder}
use Rattle.std.specs.Ordering.{eq_by_cmp, is_eq, nat_cmp, ordering_index}
use Rattle.std.proofs.lemmas.Bool.{cases_Bool, cases_lt, eqb-true, eq-eqb}
use Rattle.std.proofs.lemmas.Cmp.{nat_cmp_total, on_total, then_total, tied_itself}
use Rattle.std.proofs.lemmas.Option.{slice_get-get_or}
use Rattle.std.proofs.lemmas.List.Kept.{Contains-dedup, Contains-from_dedup, IsStrictlySortedBy-dedup}
use Rattle.std.proofs.lemmas.List.Sorted.{Contains-permutation, IsPermutation-sym, searchable_from_sorted}
use Rattle.std.proofs.lemmas.List.Sums.{sum_by-append}
use Rattle.list_lemmas.proofs.Members.{In, Contains_from_in, all_in, any_from_in, any_true, in_either, in_from_Contains, in_left, in_right}
use Rattle.list_lemmas.proofs.Rising.{sorted_from_rising}
use Rattle.list_lemmas.proofs.Ties.{tied_first, tied_second, same_number}
use Rattle.atom_index.proofs.Keys.{is_equal}
use Rattle.island_core.specs.Far.{compare_pairs, has, same_pair}
use Rattle.island_core.specs.declared.row.Pair.{Pair}

abbrev pub pair_of : ℕ → ℕ → Pair
pair_of group target = record { group = group; target = target }

same_fields : (g t g' t' : ℕ) → g ≡ g' → t ≡ t' → pair_of g t ≡ pair_of g' t'
same_fields g t g' t' e f = rw (e, f) refl

both : (a b : Bool) → (a && b) ≡ true → (a ≡ true) × (b ≡ true)
both true true e = (refl, refl)
both true false e = cc
both false b e = cc

pub same_pairs : (a b : Pair) → same_pair a b ≡ true → a ≡ b
same_pairs a b e =
    let p = both (a.group == b.group) (a.target == b.target) e in
    same_fields a.group a.target b.group b.target (eqb-true a.group b.group p.0) (eqb-true a.target b.target p.1)

pub itself : (a : Pair) → same_pair a a ≡ true
itself a = rw (eq-eqb a.group a.group refl, eq-eqb a.target a.target refl) refl

pub compare_pairs_total : IsTotalOrder compare_pairs
compare_pairs_total = then_total (on_total (λ (p : Pair). p.group) nat_cmp_total) (on_total (λ (p : Pair). p.target) nat_cmp_total)

pub tied_pairs : (a b : Pair) → compare_pairs a b ≡ Equal → a ≡ b
tied_pairs a b e =
    same_fields a.group a.target b.group b.target
    (same_number a.group b.group (tied_first (nat_cmp a.group b.group) (nat_cmp a.target b.target) e))
    (same_number a.target b.target (tied_second (nat_cmp a.group b.group) (nat_cmp a.target b.target) e))

-- ---- members

pub in_from_has : (set : List Pair) (pair : Pair) → has set pair ≡ true → In pair set
in_from_has set pair e =
    let found : (x : Pair) × In x set × (same_pair x pair ≡ true) = any_true (λ other. same_pair other pair) set e in
    subst (λ (k : Pair). In k set) (same_pairs found.0 pair found.2) found.1

pub has_from_in : (set : List Pair) (pair : Pair) → In pair set → has set pair ≡ true
has_from_in set pair h = any_from_in (λ other. same_pair other pair) set pair h (itself pair)

same_answer : (a b : Bool) → (a ≡ true → b ≡ true) → (b ≡ true → a ≡ true) → a ≡ b
same_answer true true f g = refl
same_answer true false f g = sym (f refl)
same_answer false true f g = g refl
same_answer false false f g = refl

pub same_has : (xs ys : List Pair) (pair : Pair) → (Contains xs pair → Contains ys pair) → (Contains ys pair → Contains xs pair) → has xs pair ≡ has ys pair
same_has xs ys pair f g =
    same_answer (has xs pair) (has ys pair)
    (λ e. has_from_in ys pair (in_from_Contains ys pair (f (Contains_from_in xs pair (in_from_has xs pair e)))))
    (λ e. has_from_in xs pair (in_from_Contains xs pair (g (Contains_from_in ys pair (in_from_has ys pair e)))))

-- ---- what a search in order answers

pub found_has : (set : List Pair) (pair : Pair) (at : ℕ) → at < length set → HoldsAt (λ (p : Pair). compare_pairs p pair ≡ Equal) set at → true ≡ has set pair
found_has set pair at within holds = sym (has_from_in set pair (in_from_Contains set pair (at, within, tied_pairs (get_or set at pair) pair (holds pair))))

pub found_pair : (set : List Pair) (pair : Pair) (at : ℕ) → at < length set → HoldsAt (λ (p : Pair). compare_pairs p pair ≡ Equal) set at → slice_get set at ≡ Some pair
found_pair set pair at within holds = slice_get-get_or set at pair within ∙ ap Some (tied_pairs (get_or set at pair) pair (holds pair))

pub missing_pair : (set : List Pair) (pair : Pair) (at : ℕ) → IsStrictlySortedBy compare_pairs set
    → (IsNonDecreasingBy (λ (p : Pair). ordering_index (compare_pairs p pair)) set
    → IsPartitionPoint (λ (p : Pair). compare_pairs p pair ≡ Less) (λ (p : Pair). compare_pairs p pair ≡ Greater) set at) → Contains set pair → ⊥
missing_pair set pair at rising parted h = where_is (cases_lt h.0 at)
  where
    parts : IsPartitionPoint (λ (p : Pair). compare_pairs p pair ≡ Less) (λ (p : Pair). compare_pairs p pair ≡ Greater) set at
    parts = parted (searchable_from_sorted compare_pairs_total (λ (p : Pair). p) set pair (sorted_from_rising compare_pairs_total set rising))

    two : Less ≡ Equal → ⊥
    two e = cc

    others : Greater ≡ Equal → ⊥
    others e = cc

    equal : compare_pairs (get_or set h.0 pair) pair ≡ Equal
    equal = ap (λ (p : Pair). compare_pairs p pair) h.2 ∙ tied_itself compare_pairs_total pair

    where_is : (h.0 < at) ⊎ (at ≤ h.0) → ⊥
    where_is (inl down) = let less = parts.0 h.0 pair (omega arith) down in two (sym less ∙ equal)
    where_is (inr up) = let greater = parts.1 h.0 pair up h.1 in others (sym greater ∙ equal)

pub missing_has : (set : List Pair) (pair : Pair) (at : ℕ) → IsStrictlySortedBy compare_pairs set
    → (IsNonDecreasingBy (λ (p : Pair). ordering_index (compare_pairs p pair)) set
    → IsPartitionPoint (λ (p : Pair). compare_pairs p pair ≡ Less) (λ (p : Pair). compare_pairs p pair ≡ Greater) set at) → false ≡ has set pair
missing_has set pair at rising parted = by (cases_Bool (has set pair))
  where
    by : (has set pair ≡ true) ⊎ (has set pair ≡ false) → false ≡ has set pair
    by (inl here) = absurd (missing_pair set pair at rising parted (Contains_from_in set pair (in_from_has set pair here)))
    by (inr away) = sym away

-- ---- pairs in order, each once

equivalence : IsEquivalence same_pair
equivalence = record {
  refl = itself;
  symm = λ a b. same_answer (same_pair a b) (same_pair b a)
      (λ e. subst (λ (k : Pair). same_pair k a ≡ true) (same_pairs a b e) (itself a))
      (λ e. subst (λ (k : Pair). same_pair k b ≡ true) (same_pairs b a e) (itself b));
  congr = λ a b c e. ap (λ (k : Pair). same_pair k c) (same_pairs a b e);
}

ties : (x y : Pair) → same_pair x y ≡ eq_by_cmp compare_pairs x y
ties x y =
    same_answer (same_pair x y) (eq_by_cmp compare_pairs x y)
    (λ e. subst (λ (k : Pair). eq_by_cmp compare_pairs x k ≡ true) (same_pairs x y e) (ap is_eq (tied_itself compare_pairs_total x)))
    (λ e. subst (λ (k : Pair). same_pair x k ≡ true) (tied_pairs x y (is_equal (compare_pairs x y) e)) (itself x))

pub once_has : (pairs sorted set : List Pair) → IsPermutation pairs sorted → set ≡ dedup same_pair sorted → (pair : Pair) → has set pair ≡ has pairs pair
once_has pairs sorted set moved is pair =
    ap (λ (ps : List Pair). has ps pair) is
    ∙ same_has (dedup same_pair sorted) pairs pair
    (λ h. Contains-permutation sorted pairs pair (IsPermutation-sym pairs sorted moved) (Contains-from_dedup same_pair sorted pair h))
    (λ h. Contains-dedup equivalence same_pairs sorted pair (Contains-permutation pairs sorted pair moved h))

pub once_rises : (sorted set : List Pair) → IsSorted compare_pairs sorted → set ≡ dedup same_pair sorted → IsStrictlySortedBy compare_pairs set
once_rises sorted set up is = subst (λ (ps : List Pair). IsStrictlySortedBy compare_pairs ps) (sym is) (IsStrictlySortedBy-dedup compare_pairs_total ties sorted up)

-- ---- how many pass a test

one : (Pair → Bool) → Pair → ℕ
one p x = cond (p x) 1 0

count_cons : (p : Pair → Bool) (x : Pair) (xs : List Pair) → count_by p (x ∷ xs) ≡ one p x + count_by p xs
unfolding one
count_cons p x xs = sum_by-append (λ (y : Pair). cond (p y) 1 0) (x ∷ []) xs ∙ omega arith

count_join : (p : Pair → Bool) (xs ys : List Pair) → count_by p (xs ++ ys) ≡ count_by p xs + count_by p ys
count_join p xs ys = sum_by-append (λ (y : Pair). cond (p y) 1 0) xs ys

record Cut (x : Pair) (ys : List Pair) : Type 0 where
  front : List Pair
  behind : List Pair
  is : ys ≡ front ++ x ∷ behind

cut_at : (x : Pair) (ys : List Pair) → In x ys → Cut x ys
cut_at x [] h = absurd h
cut_at x (y ∷ ys) (inl e) = record { front = []; behind = ys; is = ap (λ (z : Pair). z ∷ ys) e }
cut_at x (y ∷ ys) (inr h) = let rest = cut_at x ys h in record { front = y ∷ rest.front; behind = rest.behind; is = ap (λ (zs : List Pair). y ∷ zs) rest.is }

left_over : (x t : Pair) (front behind : List Pair) → (x ≡ t → ⊥) → In t front ⊎ ((x ≡ t) ⊎ In t behind) → In t (front ++ behind)
left_over x t front behind apart (inl h) = in_left front behind t h
left_over x t front behind apart (inr (inl e)) = absurd (apart e)
left_over x t front behind apart (inr (inr h)) = in_right front behind t h

-- of a list in which no element stands twice no more pass than of one that has its elements
pub count_within : (p : Pair → Bool) (xs ys : List Pair) → IsStrictlySortedBy compare_pairs xs → ((t : Pair) → In t xs → In t ys) → count_by p xs ≤ count_by p ys
unfolding IsStrictlySortedBy
count_within p [] ys rises all = omega arith
count_within p (x ∷ xs) ys rises all =
    let cut : Cut x ys = cut_at x ys (all x (inl refl)) in
    let rest : count_by p xs ≤ count_by p (cut.front ++ cut.behind) =
    count_within p xs (cut.front ++ cut.behind) rises.1 (λ t h. left_over x t cut.front cut.behind (apart t h) (in_either cut.front (x ∷ cut.behind) t (subst (λ (zs : List Pair). In t zs) cut.is (all t (inr h))))) in
    let whole : count_by p ys ≡ count_by p cut.front + count_by p (x ∷ cut.behind) = ap (λ (zs : List Pair). count_by p zs) cut.is ∙ count_join p cut.front (x ∷ cut.behind) in
    omega (arith, rest, whole, count_cons p x cut.behind, count_cons p x xs, count_join p cut.front cut.behind)
  where
    apart : (t : Pair) → In t xs → x ≡ t → ⊥
    apart t h e =
        let less : compare_pairs x x ≡ Less = subst (λ (k : Pair). compare_pairs x k ≡ Less) (sym e) (all_in (λ (y : Pair). compare_pairs x y ≡ Less) xs t rises.0 h) in
        let equal = tied_itself compare_pairs_total x in
        cc
