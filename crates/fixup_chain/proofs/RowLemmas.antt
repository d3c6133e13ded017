-- The order of imports by the places of their names.
use Rattle.std.proofs.Common.{◌≡◌, ℕ, ◌==◌, ◌&&◌, ◌<◌, Bool, true, false, ℤ, List, [], ◌∷◌, refl, sym, ap, subst, ◌∙◌, arith}
use Rattle.std.specs.Bool.{beq}
use Rattle.std.specs.Cmp.{IsTotalOrder, bool_cmp_total, int_ranks}
use Rattle.std.specs.Int.Signed.{◌<ℤ◌}
use Rattle.std.specs.List.{dedup_from, IsDistinct}
use Rattle.std.specs.List.Sorted.{IsSorted, IsStrictlySortedBy}
use Rattle.std.specs.Ordering.{nat_cmp, int_cmp, int_eq, bool_cmp, eq_by_cmp, is_eq, ordering_then, MatchOrdering}
use Rattle.std.specs.declared.cmp.Ordering.{Ordering}
use Rattle.std.specs.declared.cmp.Ordering.TheVariants.{Less, Equal, Greater}
use Rattle.std.proofs.lemmas.Bool.{eqb-true, eq-eqb}
use Rattle.std.proofs.lemmas.Cmp.{eq_by_cmp_equiv, int_cmp_total, nat_cmp_total, on_total, ranked, then_total}
use Rattle.std.proofs.lemmas.List.Kept.{IsStrictlySortedBy-dedup}
use Rattle.fixup_chain.specs.declared.import_row.ImportRow.{ImportRow}
use Rattle.fixup_chain.specs.inner.Rows.{compare_rows, same_row}

pub compare_rows_total : IsTotalOrder compare_rows
compare_rows_total =
    then_total (on_total (λ (r : ImportRow). r.name) nat_cmp_total)
    (then_total (on_total (λ (r : ImportRow). r.addend) int_cmp_total)
    (then_total (on_total (λ (r : ImportRow). r.ordinal) nat_cmp_total) (on_total (λ (r : ImportRow). r.optional) bool_cmp_total)))

-- ---- rows that tie are the same

both_tie : (o r : Ordering) → is_eq (ordering_then o r) ≡ (is_eq o && is_eq r)
both_tie Less r = refl
both_tie Equal r = refl
both_tie Greater r = refl

numbers_tie : (x y : ℕ) → (x == y) ≡ is_eq (nat_cmp x y)
numbers_tie x y = by (x == y) refl (nat_cmp x y) (ranked x y (nat_cmp x y) refl)
  where
    by : (b : Bool) → (x == y) ≡ b → (r : Ordering) → MatchOrdering r (x < y) (x ≡ y) (y < x) → b ≡ is_eq r
    by true e Less m = absurd (omega (arith, eqb-true x y e, m))
    by true e Equal m = refl
    by true e Greater m = absurd (omega (arith, eqb-true x y e, m))
    by false e Less m = refl
    by false e Equal m = absurd (let f : true ≡ false = sym (eq-eqb x y m) ∙ e in cc)
    by false e Greater m = refl

bools_tie : (x y : Bool) → beq x y ≡ is_eq (bool_cmp x y)
bools_tie true true = refl
bools_tie true false = refl
bools_tie false true = refl
bools_tie false false = refl

pub rows_tie : (a b : ImportRow) → same_row a b ≡ eq_by_cmp compare_rows a b
rows_tie a b =
    let by_optional = bool_cmp a.optional b.optional in
    let by_ordinal = ordering_then (nat_cmp a.ordinal b.ordinal) by_optional in
    let by_addend = ordering_then (int_cmp a.addend b.addend) by_ordinal in
    let one : is_eq (ordering_then (nat_cmp a.name b.name) by_addend) ≡ (is_eq (nat_cmp a.name b.name) && is_eq by_addend) = both_tie (nat_cmp a.name b.name) by_addend in
    let two : is_eq by_addend ≡ (is_eq (int_cmp a.addend b.addend) && is_eq by_ordinal) = both_tie (int_cmp a.addend b.addend) by_ordinal in
    let three : is_eq by_ordinal ≡ (is_eq (nat_cmp a.ordinal b.ordinal) && is_eq by_optional) = both_tie (nat_cmp a.ordinal b.ordinal) by_optional in
    ap (λ (s : Bool). s && (int_eq a.addend b.addend && (a.ordinal == b.ordinal && beq a.optional b.optional))) (numbers_tie a.name b.name)
    ∙ ap (λ (s : Bool). is_eq (nat_cmp a.name b.name) && (int_eq a.addend b.addend && (s && beq a.optional b.optional))) (numbers_tie a.ordinal b.ordinal)
    ∙ ap (λ (s : Bool). is_eq (nat_cmp a.name b.name) && (int_eq a.addend b.addend && (is_eq (nat_cmp a.ordinal b.ordinal) && s))) (bools_tie a.optional b.optional)
    ∙ sym (one ∙ ap (λ (s : Bool). is_eq (nat_cmp a.name b.name) && s) (two ∙ ap (λ (s : Bool). is_eq (int_cmp a.addend b.addend) && s) three))

both : (a b : Bool) → (a && b) ≡ true → (a ≡ true) × (b ≡ true)
both true b e = (refl, e)
both false b e = cc

same_int : (x y : ℤ) → int_eq x y ≡ true → x ≡ y
same_int x y e = by (int_cmp x y) e (int_ranks x y)
  where
    by : (r : Ordering) → is_eq r ≡ true → MatchOrdering r (x <ℤ y) (x ≡ y) (y <ℤ x) → x ≡ y
    by Less e m = cc
    by Equal e m = m
    by Greater e m = cc

same_bool : (x y : Bool) → beq x y ≡ true → x ≡ y
same_bool true true e = refl
same_bool true false e = cc
same_bool false true e = cc
same_bool false false e = refl

abbrev row_by_parts : ℕ → ℤ → ℕ → Bool → ImportRow
row_by_parts n a o p = record { name = n; addend = a; ordinal = o; optional = p }

same_parts : (n n' : ℕ) (a a' : ℤ) (o o' : ℕ) (p p' : Bool) → n ≡ n' → a ≡ a' → o ≡ o' → p ≡ p' → row_by_parts n a o p ≡ row_by_parts n' a' o' p'
same_parts n n' a a' o o' p p' e f g h = rw (e, f, g, h) refl

pub same_rows : (a b : ImportRow) → same_row a b ≡ true → a ≡ b
same_rows a b e =
    let one = both (a.name == b.name) (int_eq a.addend b.addend && (a.ordinal == b.ordinal && beq a.optional b.optional)) e in
    let two = both (int_eq a.addend b.addend) (a.ordinal == b.ordinal && beq a.optional b.optional) one.1 in
    let three = both (a.ordinal == b.ordinal) (beq a.optional b.optional) two.1 in
    same_parts a.name b.name a.addend b.addend a.ordinal b.ordinal a.optional b.optional (eqb-true a.name b.name one.0) (same_int a.addend b.addend two.0) (eqb-true a.ordinal b.ordinal three.0) (same_bool a.optional b.optional three.1)

-- ---- a sorted list without repeats rises

dedup_stays : {K : Type 0} (E : K → K → Bool) (flips : (x y : K) → E x y ≡ E y x) (k : K) (xs : List K) → IsDistinct E (k ∷ xs) → dedup_from E k xs ≡ k ∷ xs
unfolding IsDistinct
dedup_stays E flips k [] distinct = refl
dedup_stays E flips k (x ∷ xs) distinct =
    let other : E x k ≡ false = flips x k ∙ distinct.0.0 in
    let rest : dedup_from E x xs ≡ x ∷ xs = dedup_stays E flips x xs distinct.1 in
    rw (other, rest) refl

pub distinct_rises : {K : Type 0} {c : K → K → Ordering} (E : K → K → Bool) → IsTotalOrder c → ((a b : K) → E a b ≡ eq_by_cmp c a b) → (xs : List K) → IsSorted c xs → IsDistinct E xs → IsStrictlySortedBy c xs
unfolding IsStrictlySortedBy
distinct_rises E o ties [] sorted distinct = tt
distinct_rises {c = c} E o ties (x ∷ xs) sorted distinct =
    subst (IsStrictlySortedBy c)
    (dedup_stays E (λ a b. ties a b ∙ (eq_by_cmp_equiv o).symm a b ∙ sym (ties b a)) x xs distinct)
    (IsStrictlySortedBy-dedup o ties (x ∷ xs) sorted)
