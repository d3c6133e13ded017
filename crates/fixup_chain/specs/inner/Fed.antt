-- Imports that are the same feed a hasher alike.
use Rattle.std.proofs.Common.{◌≡◌, ◌++◌, ◌∷◌, [], ℕ, List, true, length, take, refl, ap}
use Rattle.std.specs.declared.cmp.Ordering.{Ordering}
use Rattle.std.specs.declared.cmp.Ordering.TheVariants.{Less, Equal, Greater}
use Rattle.std.specs.Cmp.Lexicographic.{slice_cmp}
use Rattle.std.specs.Ordering.{nat_cmp, int_cmp, bool_cmp, on, then_cmp, eq_by_cmp, is_eq, ordering_then}
use Rattle.std.specs.Hash as fed
use Rattle.std.proofs.lemmas.Map.Text.{is_eq-slice_cmp}
use Rattle.std.proofs.lemmas.Slice.Eq.{bytes_eq-Decides}
use Rattle.fixup_chain.specs.ImportOrder.{Import, compare_imports}

first_ties : (a b : Ordering) → is_eq (ordering_then a b) ≡ true → is_eq a ≡ true
first_ties Less b e = e
first_ties Equal b e = refl
first_ties Greater b e = e

pub same_name : (a b : Import) → eq_by_cmp compare_imports a b ≡ true → a.name ≡ b.name
unfolding compare_imports
same_name a b e =
    let others = then_cmp (on (λ (i : Import). i.addend) int_cmp) (then_cmp (on (λ (i : Import). i.ordinal) nat_cmp) (on (λ (i : Import). i.optional) bool_cmp)) a b in
    let first : is_eq (slice_cmp nat_cmp a.name b.name) ≡ true = first_ties (slice_cmp nat_cmp a.name b.name) others e in
    (bytes_eq-Decides a.name b.name).0 (rw (← is_eq-slice_cmp a.name b.name) first)

pub imports_feed : (a b : Import) → eq_by_cmp compare_imports a b ≡ true → fed.usize (length a.name) ++ take 1024 a.name ∷ [] ≡ fed.usize (length b.name) ++ take 1024 b.name ∷ []
imports_feed a b e = ap (λ (name : List ℕ). fed.usize (length name) ++ take 1024 name ∷ []) (same_name a b e)
