-- Imports and their order: by name, then by signed addend, and last by what else they have.
use Rattle.std.specs.Prelude.{ℕ, Bool, ℤ, List}
use Rattle.std.specs.declared.cmp.Ordering.{Ordering}
use Rattle.std.specs.Ordering.{nat_cmp, int_cmp, bool_cmp, on, then_cmp, eq_by_cmp, as_partial_cmp}
use Rattle.std.specs.Cmp.Lexicographic.{slice_cmp}
use Rattle.std.specs.Cmp.{bool_cmp_total, IsTotalOrder, IsEquivalence, IsPartialOrder, partial_order_from_total}
use Rattle.std.proofs.lemmas.Cmp.{nat_cmp_total, nat_list_cmp_total, int_cmp_total, on_total, then_total, eq_by_cmp_equiv}

-- What a pointer is bound to: a name, what is added to its address, the number of the library that has it, or a special
-- one, in 16 bits, and whether the name may be missing.
pub record Import : Type 0 where
  pub name : List ℕ
  pub addend : ℤ
  pub ordinal : ℕ
  pub optional : Bool

unfoldable pub compare_imports : Import → Import → Ordering
compare_imports =
    then_cmp (on (λ (i : Import). i.name) (slice_cmp nat_cmp))
    (then_cmp (on (λ (i : Import). i.addend) int_cmp)
    (then_cmp (on (λ (i : Import). i.ordinal) nat_cmp) (on (λ (i : Import). i.optional) bool_cmp)))

pub compare_imports_total : IsTotalOrder compare_imports
unfolding compare_imports
compare_imports_total =
    then_total (on_total (λ (i : Import). i.name) nat_list_cmp_total)
    (then_total (on_total (λ (i : Import). i.addend) int_cmp_total)
    (then_total (on_total (λ (i : Import). i.ordinal) nat_cmp_total) (on_total (λ (i : Import). i.optional) bool_cmp_total)))

pub compare_imports_equal : IsEquivalence (eq_by_cmp compare_imports)
compare_imports_equal = eq_by_cmp_equiv compare_imports_total

pub compare_imports_partial : IsPartialOrder (eq_by_cmp compare_imports) (as_partial_cmp compare_imports)
compare_imports_partial = partial_order_from_total compare_imports_total
