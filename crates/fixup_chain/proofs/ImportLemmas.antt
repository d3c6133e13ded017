-- Imports, put together each once and in order.
use Rattle.std.proofs.Common.{◌≡◌, ℕ, Bool, true, false, ℤ, List, [], Contains, refl, sym, ap, subst, inl, inr}
use Rattle.std.specs.Prelude.{IsPermutation}
use Rattle.std.specs.List.{IsDistinct}
use Rattle.std.specs.List.Sorted.{IsSorted}
use Rattle.std.specs.Cmp.{int_ranks}
use Rattle.std.specs.Cmp.Lexicographic.{slice_cmp}
use Rattle.std.specs.Int.Signed.{◌<ℤ◌}
use Rattle.std.specs.declared.cmp.Ordering.{Ordering}
use Rattle.std.specs.declared.cmp.Ordering.TheVariants.{Less, Equal, Greater}
use Rattle.std.specs.Ordering.{nat_cmp, int_cmp, bool_cmp, eq_by_cmp, is_eq, ordering_then, MatchOrdering}
use Rattle.std.proofs.lemmas.List.Sorted.{Contains-permutation, IsPermutation-sym}
use Rattle.list_lemmas.proofs.Inserted.{from_inserted, in_inserted}
use Rattle.list_lemmas.proofs.Members.{in_from_Contains, Contains_from_in}
use Rattle.list_lemmas.proofs.Ties.{same_number}
use Rattle.indexmap.specs.IndexSet.{insert_all}
use Rattle.fixup_chain.specs.ImportOrder.{Import, compare_imports, compare_imports_total}
use Rattle.fixup_chain.specs.Imports.{AreFormed, AreImports, import_of, imports_by, is_wide, pool_of}
use Rattle.fixup_chain.specs.inner.Fed.{same_name}
use Rattle.fixup_chain.specs.inner.Held.{gathered, imports_in, is_same}
use Rattle.fixup_chain.specs.inner.InOrder.{in_order}
use Rattle.fixup_chain.specs.declared.chains.Fixup.{Fixup}
use Rattle.fixup_chain.proofs.OneLemmas.{same_imports}
use Rattle.fixup_chain.proofs.OrderLemmas.{from_in_order, in_in_order, order_rises}
use Rattle.fixup_chain.proofs.RowLemmas.{distinct_rises}

-- ---- imports that tie are the same

second : (a b : Ordering) → is_eq (ordering_then a b) ≡ true → (is_eq a ≡ true) × (is_eq b ≡ true)
second Less b e = cc
second Equal b e = (refl, e)
second Greater b e = cc

tied : (o : Ordering) → is_eq o ≡ true → o ≡ Equal
tied Less e = cc
tied Equal e = refl
tied Greater e = cc

same_int : (x y : ℤ) → int_cmp x y ≡ Equal → x ≡ y
same_int x y e = by (int_cmp x y) e (int_ranks x y)
  where
    by : (r : Ordering) → r ≡ Equal → MatchOrdering r (x <ℤ y) (x ≡ y) (y <ℤ x) → x ≡ y
    by Less e m = cc
    by Equal e m = m
    by Greater e m = cc

same_bool : (x y : Bool) → bool_cmp x y ≡ Equal → x ≡ y
same_bool true true e = refl
same_bool true false e = cc
same_bool false true e = cc
same_bool false false e = refl

abbrev pub import_by : List ℕ → ℤ → ℕ → Bool → Import
import_by n a o p = record { name = n; addend = a; ordinal = o; optional = p }

same_parts : (n n' : List ℕ) (a a' : ℤ) (o o' : ℕ) (p p' : Bool) → n ≡ n' → a ≡ a' → o ≡ o' → p ≡ p' → import_by n a o p ≡ import_by n' a' o' p'
same_parts n n' a a' o o' p p' e f g h = rw (e, f, g, h) refl

pub same_import : (a b : Import) → eq_by_cmp compare_imports a b ≡ true → a ≡ b
unfolding compare_imports
same_import a b e =
    let name : a.name ≡ b.name = same_name a b e in
    let by_optional = bool_cmp a.optional b.optional in
    let by_ordinal = ordering_then (nat_cmp a.ordinal b.ordinal) by_optional in
    let by_addend = ordering_then (int_cmp a.addend b.addend) by_ordinal in
    let one = second (slice_cmp nat_cmp a.name b.name) by_addend e in
    let two = second (int_cmp a.addend b.addend) by_ordinal one.1 in
    let three = second (nat_cmp a.ordinal b.ordinal) by_optional two.1 in
    let addend : a.addend ≡ b.addend = same_int a.addend b.addend (tied (int_cmp a.addend b.addend) two.0) in
    let ordinal : a.ordinal ≡ b.ordinal = same_number a.ordinal b.ordinal (tied (nat_cmp a.ordinal b.ordinal) three.0) in
    let optional : a.optional ≡ b.optional = same_bool a.optional b.optional (tied by_optional three.1) in
    same_parts a.name b.name a.addend b.addend a.ordinal b.ordinal a.optional b.optional name addend ordinal optional

-- ---- what is gathered and put in order

tie_same : (a b : Import) → compare_imports a b ≡ Equal → a ≡ b
tie_same a b e = same_import a b (ap is_eq e)

pub are_in : (wide : Bool) (fixups : List Fixup) → AreImports (imports_by wide fixups) (imports_in wide fixups)
unfolding imports_in
are_in wide fixups = record {
  rising = order_rises compare_imports compare_imports_total (imports_by wide fixups);
  all = λ import h.
      Contains_from_in (in_order compare_imports (imports_by wide fixups)) import
      (in_in_order compare_imports tie_same (imports_by wide fixups) import (in_from_Contains (imports_by wide fixups) import h));
  only = λ import h.
      Contains_from_in (imports_by wide fixups) import
      (from_in_order compare_imports (imports_by wide fixups) import (in_from_Contains (in_order compare_imports (imports_by wide fixups)) import h));
}

ordered : (fixups : List Fixup) (before after : List Import) → before ≡ gathered is_same (import_of false) fixups → IsPermutation before after → IsSorted compare_imports after → IsDistinct is_same after → AreImports (imports_by false fixups) after
unfolding gathered imports_by
ordered fixups before after is moved sorted distinct = record {
  rising = distinct_rises is_same compare_imports_total (λ a b. refl) after sorted distinct;
  all = λ import h.
      Contains-permutation before after import moved
      (subst (λ (xs : List Import). Contains xs import) (sym is)
      (Contains_from_in (insert_all is_same [] (imports_by false fixups)) import
      (in_inserted is_same same_import [] (imports_by false fixups) import (in_from_Contains (imports_by false fixups) import h))));
  only = λ import h.
      let there : Contains before import = Contains-permutation after before import (IsPermutation-sym before after moved) h in
      let put : Contains (insert_all is_same [] (imports_by false fixups)) import = subst (λ (xs : List Import). Contains xs import) is there in
      elim (from_inserted is_same same_import [] (imports_by false fixups) import (in_from_Contains (insert_all is_same [] (imports_by false fixups)) import put)) [
        | inl none ↦ absurd none
        | inr given ↦ Contains_from_in (imports_by false fixups) import given
      ];
}

pub ordered_in : (fixups : List Fixup) (before after : List Import) → before ≡ gathered is_same (import_of false) fixups → IsPermutation before after → IsSorted compare_imports after → IsDistinct is_same after → after ≡ imports_in false fixups
ordered_in fixups before after is moved sorted distinct =
    same_imports (imports_by false fixups) after (imports_in false fixups) (ordered fixups before after is moved sorted distinct) (are_in false fixups)

-- ---- their form

pub forms : (fixups : List Fixup) (wide : Bool) → wide ≡ is_wide fixups (pool_of (imports_in false fixups)) → AreFormed fixups wide (imports_in wide fixups)
forms fixups wide e = record {
  narrow = imports_in false fixups;
  are_narrow = are_in false fixups;
  form = e;
  are = are_in wide fixups;
}
