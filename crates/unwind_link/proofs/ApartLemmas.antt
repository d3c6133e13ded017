-- Rows in order that have no byte in common, one behind the other.
use Rattle.std.proofs.Common.{◌≡◌, ℕ, zero, suc, ◌+◌, ◌<◌, ◌≤◌, ◌⊎◌, inl, inr, List, [], ◌∷◌, length, map, get_or, All, refl, sym, ap, ◌∙◌, subst, arith}
use Rattle.std.specs.Prelude.{IsPermutation}
use Rattle.std.specs.List.{AllPairs}
use Rattle.std.specs.List as lists
use Rattle.std.specs.List.Sorted.{IsNonDecreasingBy}
use Rattle.std.proofs.lemmas.Bool.{cases_eq, cases_order}
use Rattle.std.proofs.lemmas.List.{length-map}
use Rattle.std.proofs.lemmas.List.Edits.{Swapped, length-swap, swapped_from_swap}
use Rattle.std.proofs.lemmas.List.Sorted.{All-permutation, IsPermutation-keeps}
use Rattle.unwind_out.specs.Table.{AreApart, BeginsAfter}
use Rattle.unwind_out.specs.declared.row.UnwindRow.{UnwindRow}
use Rattle.ref_meet.specs.Scene.{Scene}
use Rattle.unwind_link.specs.Rows.{AreBeside, AreRows, AreSpread, row_of}
use Rattle.unwind_link.specs.declared.kept.KeptUnwind.{KeptUnwind}

-- ---- rows in another order

-- rows at different places have no byte in common
abbrev Beside : List UnwindRow → Type 0
Beside rows = (i j : ℕ) (d : UnwindRow) → i < length rows → j < length rows → (i ≡ j → ⊥) → AreBeside (get_or rows i d) (get_or rows j d)

turned : (a b : UnwindRow) → AreBeside a b → AreBeside b a
turned a b (inl before) = inr before
turned a b (inr after) = inl after

from_pairs : (rows : List UnwindRow) → AllPairs AreBeside rows → Beside rows
from_pairs rows pairs = λ i j d p q other. by i j d p q other (cases_order i j)
  where
    by : (i j : ℕ) (d : UnwindRow) → i < length rows → j < length rows → (i ≡ j → ⊥) → (i ≡ j) ⊎ ((i < j) ⊎ (j < i)) → AreBeside (get_or rows i d) (get_or rows j d)
    by i j d p q other (inl e) = absurd (other e)
    by i j d p q other (inr (inl less)) = pairs i j d less q
    by i j d p q other (inr (inr more)) = turned (get_or rows j d) (get_or rows i d) (pairs j i d more p)

-- where an element of the swapped list stood
record Moved (rows : List UnwindRow) (a b : ℕ) (d : UnwindRow) (m : ℕ) : Type 0 where
  from : ℕ
  within : from < length rows
  same : get_or (lists.swap rows a b) m d ≡ get_or rows from d
  place : ((m ≡ a) × (from ≡ b)) ⊎ (((m ≡ b) × (from ≡ a)) ⊎ ((m ≡ a → ⊥) × (m ≡ b → ⊥) × (from ≡ m)))

moved : (rows : List UnwindRow) (a b : ℕ) (d : UnwindRow) (m : ℕ) → a < length rows → b < length rows → m < length rows → Moved rows a b d m
moved rows a b d m p q within = by (swapped_from_swap rows (lists.swap rows a b) a b d p q refl) (cases_eq m a) (cases_eq m b)
  where
    by : Swapped (λ (i : ℕ). get_or rows i d) (λ (i : ℕ). get_or (lists.swap rows a b) i d) a b → (m ≡ a) ⊎ (m ≡ a → ⊥) → (m ≡ b) ⊎ (m ≡ b → ⊥) → Moved rows a b d m
    by s (inl e) other = record { from = b; within = q; same = ap (λ (i : ℕ). get_or (lists.swap rows a b) i d) e ∙ s.0; place = inl (e, refl) }
    by s (inr x) (inl e) = record { from = a; within = p; same = ap (λ (i : ℕ). get_or (lists.swap rows a b) i d) e ∙ s.1; place = inr (inl (e, refl)) }
    by s (inr x) (inr y) = record { from = m; within = within; same = s.2 m x y; place = inr (inr (x, y, refl)) }

one_to_one : (a b i j k l : ℕ) → k ≡ l → ((i ≡ a) × (k ≡ b)) ⊎ (((i ≡ b) × (k ≡ a)) ⊎ ((i ≡ a → ⊥) × (i ≡ b → ⊥) × (k ≡ i))) → ((j ≡ a) × (l ≡ b)) ⊎ (((j ≡ b) × (l ≡ a)) ⊎ ((j ≡ a → ⊥) × (j ≡ b → ⊥) × (l ≡ j))) → i ≡ j
one_to_one a b i j k l e (inl p) (inl q) = omega (arith, p.0, q.0)
one_to_one a b i j k l e (inl p) (inr (inl q)) = omega (arith, p.0, p.1, q.0, q.1)
one_to_one a b i j k l e (inl p) (inr (inr q)) = absurd (q.1 (omega (arith, p.1, q.2)))
one_to_one a b i j k l e (inr (inl p)) (inl q) = omega (arith, p.0, p.1, q.0, q.1)
one_to_one a b i j k l e (inr (inl p)) (inr (inl q)) = omega (arith, p.0, q.0)
one_to_one a b i j k l e (inr (inl p)) (inr (inr q)) = absurd (q.0 (omega (arith, p.1, q.2)))
one_to_one a b i j k l e (inr (inr p)) (inl q) = absurd (p.1 (omega (arith, q.1, p.2)))
one_to_one a b i j k l e (inr (inr p)) (inr (inl q)) = absurd (p.0 (omega (arith, q.1, p.2)))
one_to_one a b i j k l e (inr (inr p)) (inr (inr q)) = omega (arith, p.2, q.2)

swapped : (rows : List UnwindRow) (a b : ℕ) → a < length rows → b < length rows → Beside rows → Beside (lists.swap rows a b)
swapped rows a b p q beside = λ i j d low high other.
    let long : length (lists.swap rows a b) ≡ length rows = length-swap rows a b in
    let first = moved rows a b d i p q (omega (arith, low, long)) in
    let second = moved rows a b d j p q (omega (arith, high, long)) in
    let there = beside first.from second.from d first.within second.within (λ e. other (one_to_one a b i j first.from second.from e first.place second.place)) in
    subst (λ (row : UnwindRow). AreBeside row (get_or (lists.swap rows a b) j d)) (sym first.same) (subst (λ (row : UnwindRow). AreBeside (get_or rows first.from d) row) (sym second.same) there)

permuted : (rows order : List UnwindRow) → Beside rows → IsPermutation rows order → Beside order
permuted rows order beside moves = IsPermutation-keeps rows Beside beside (λ l i j p q d. swapped l i j p q d) order moves

-- ---- rows in order

abbrev IsSome : UnwindRow → Type 0
IsSome row = row.function < row.end

later : (row : UnwindRow) (rows : List UnwindRow) → Beside (row ∷ rows) → Beside rows
later row rows beside = λ i j d p q other. beside (suc i) (suc j) d (omega (arith, p)) (omega (arith, q)) (λ e. other (omega (arith, e)))

begins : (row : UnwindRow) (rows : List UnwindRow) → ((k : ℕ) (d : UnwindRow) → k + 1 < length (row ∷ rows) → (get_or (row ∷ rows) k d).function ≤ (get_or (row ∷ rows) (k + 1) d).function) → Beside (row ∷ rows) → All IsSome (row ∷ rows) → BeginsAfter row.end rows
begins row [] rise beside some = tt
begins row (next ∷ rows) rise beside some =
    let up = rise 0 row (omega arith) in
    let here = some 0 row (omega arith) in
    let there = some 1 row (omega arith) in
    elim (beside 0 1 row (omega arith) (omega arith) (λ e. omega (arith, e))) [ inl before ↦ before | inr after ↦ absurd (omega (arith, after, up, there)) ]

abbrev Rising : List UnwindRow → Type 0
Rising rows = (k : ℕ) (d : UnwindRow) → k + 1 < length rows → (get_or rows k d).function ≤ (get_or rows (k + 1) d).function

apart : (rows : List UnwindRow) → Rising rows → Beside rows → All IsSome rows → AreApart rows
apart [] rise beside some = tt
apart (row ∷ rows) rise beside some = (
  some 0 row (omega arith),
  begins row rows rise beside some,
  apart rows (λ k d low. next k d (omega (arith, low))) (later row rows beside) (λ k d low. some (suc k) d (omega (arith, low))),
)
  where
    next : (k : ℕ) (d : UnwindRow) → suc k + 1 < length (row ∷ rows) → (get_or rows k d).function ≤ (get_or rows (k + 1) d).function
    next k d low =
        let one : suc k + 1 ≡ suc (k + 1) = omega arith in
        subst (λ (n : ℕ). (get_or rows k d).function ≤ (get_or (row ∷ rows) n d).function) one (rise (suc k) d low)

-- ---- the rows of entries

mapped_at : (s : Scene) (kept : List KeptUnwind) (k : ℕ) (d : KeptUnwind) (e : UnwindRow) → k < length kept → get_or (map (row_of s) kept) k e ≡ row_of s (get_or kept k d)
mapped_at s [] k d e low = absurd (omega (arith, low))
mapped_at s (one ∷ kept) zero d e low = refl
mapped_at s (one ∷ kept) (suc k) d e low = mapped_at s kept k d e (omega (arith, low))

-- any entry
first_of : (kept : List KeptUnwind) (k : ℕ) → k < length kept → KeptUnwind
first_of [] k low = absurd (omega (arith, low))
first_of (one ∷ kept) k low = one

pairs_mapped : (s : Scene) (kept : List KeptUnwind) → AllPairs (λ (a : KeptUnwind) (b : KeptUnwind). AreBeside (row_of s a) (row_of s b)) kept → AllPairs AreBeside (map (row_of s) kept)
pairs_mapped s kept pairs = λ i j e low high.
    let within : j < length kept = omega (arith, high, length-map kept (row_of s)) in
    let d = first_of kept j within in
    subst (λ (row : UnwindRow). AreBeside row (get_or (map (row_of s) kept) j e)) (sym (mapped_at s kept i d e (omega (arith, low, within))))
    (subst (λ (row : UnwindRow). AreBeside (row_of s (get_or kept i d)) row) (sym (mapped_at s kept j d e within)) (pairs i j d low within))

some_row : (s : Scene) (one : KeptUnwind) → 0 < one.unwind.length → IsSome (row_of s one)
unfolding row_of
some_row s one some = omega (arith, some)

some_rows : (s : Scene) (kept : List KeptUnwind) → All (λ (one : KeptUnwind). 0 < one.unwind.length) kept → All IsSome (map (row_of s) kept)
some_rows s kept some = λ k e low.
    let within : k < length kept = omega (arith, low, length-map kept (row_of s)) in
    let d = first_of kept k within in
    subst IsSome (sym (mapped_at s kept k d e within)) (some_row s (get_or kept k d) (some k d within))

pub rows_apart : (s : Scene) (kept : List KeptUnwind) (rows : List UnwindRow) → AreSpread s kept → AreRows s kept rows → AreApart rows
rows_apart s kept rows spread are =
    apart rows (λ k d low. are.order k (k + 1) d (omega arith) low)
    (permuted (map (row_of s) kept) rows (from_pairs (map (row_of s) kept) (pairs_mapped s kept spread.beside)) are.each)
    (All-permutation IsSome (map (row_of s) kept) rows are.each (some_rows s kept spread.some))

pub are_rows : (s : Scene) (kept read : List KeptUnwind) (rows sorted : List UnwindRow) → rows ≡ map (row_of s) read → read ≡ kept → IsPermutation rows sorted → IsNonDecreasingBy (λ (row : UnwindRow). row.function) sorted → AreRows s kept sorted
are_rows s kept read rows sorted made same moved rise = record {
  each = subst (λ (rs : List UnwindRow). IsPermutation rs sorted) (made ∙ ap (map (row_of s)) same) moved;
  order = rise;
}

pub ruleset aparts = (rows_apart, are_rows)
