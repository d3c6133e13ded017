-- Targets in order, each once.
use Rattle.std.proofs.Common.{◌≡◌, ℕ, ℤ, Bool, true, List, map, Contains, Option, Some, None, refl, sym, ap, subst, ◌∙◌}
use Rattle.std.specs.Cmp.{IsEquivalence, IsTotalOrder}
use Rattle.std.specs.List.{dedup}
use Rattle.std.specs.List.Sorted.{IsPermutation, IsSorted, IsStrictlySortedBy}
use Rattle.std.specs.Option.{option_cmp}
use Rattle.std.specs.Ordering.{eq_by_cmp, int_cmp, nat_cmp, on, ordering_then}
use Rattle.std.specs.declared.cmp.Ordering.{Ordering}
use Rattle.std.specs.declared.cmp.Ordering.TheVariants.{Equal}
use Rattle.std.proofs.lemmas.Cmp.{eq_by_cmp_equiv, int_ranked, on_total}
use Rattle.std.proofs.lemmas.List.Kept.{Contains-dedup, Contains-from_dedup, IsStrictlySortedBy-dedup}
use Rattle.std.proofs.lemmas.List.Sorted.{Contains-permutation, IsPermutation-sym}
use Rattle.list_lemmas.proofs.Members.{In, Contains_from_in, from_map, in_from_Contains, in_map}
use Rattle.list_lemmas.proofs.Rising.{rising_map}
use Rattle.list_lemmas.proofs.Ties.{same_number, tied_first, tied_second}
use Rattle.mo_types.specs.Goals.{compare_goals}
use Rattle.mo_types.specs.declared.goal.Goal.{Goal}
use Rattle.atom_index.proofs.Keys.{is_equal}
use Rattle.mo_types.proofs.Goals.{same_goal}
use Rattle.sect_place.specs.declared.island.BranchTarget.{BranchTarget}
use Rattle.islands.specs.Targets.{AreTargets, compare_targets}
use Rattle.islands.specs.declared.target.Aim.{Aim}
use Rattle.islands.specs.inner.Held.{aim_of, target_of}
use Rattle.islands.proofs.Keyed.{compare_targets_total}

same_option : (a b : Option ℕ) → option_cmp nat_cmp a b ≡ Equal → a ≡ b
same_option None None e = refl
same_option None (Some y) e = cc
same_option (Some x) None e = cc
same_option (Some x) (Some y) e = ap Some (same_number x y e)

same_fields : (goal other : Goal) (addend addend' : ℤ) (stub stub' : Option ℕ) → goal ≡ other → addend ≡ addend' → stub ≡ stub' → (let a : Aim = record { goal = goal; addend = addend; stub = stub } in a) ≡ record { goal = other; addend = addend'; stub = stub' }
same_fields goal other addend addend' stub stub' e f g = rw (e, f, g) refl

abbrev compare_aims : Aim → Aim → Ordering
compare_aims = on target_of compare_targets

compare_aims_total : IsTotalOrder compare_aims
compare_aims_total = on_total target_of compare_targets_total

same_aim : (a b : Aim) → compare_aims a b ≡ Equal → a ≡ b
same_aim a b e =
    let rest = tied_second (compare_goals a.goal b.goal) (ordering_then (int_cmp a.addend b.addend) (option_cmp nat_cmp a.stub b.stub)) e in
    same_fields a.goal b.goal a.addend b.addend a.stub b.stub
    (same_goal a.goal b.goal (tied_first (compare_goals a.goal b.goal) (ordering_then (int_cmp a.addend b.addend) (option_cmp nat_cmp a.stub b.stub)) e))
    (int_ranked a.addend b.addend Equal (sym (tied_first (int_cmp a.addend b.addend) (option_cmp nat_cmp a.stub b.stub) rest)))
    (same_option a.stub b.stub (tied_second (int_cmp a.addend b.addend) (option_cmp nat_cmp a.stub b.stub) rest))

-- what ties is the same
pub same_target : (a b : BranchTarget) → compare_targets a b ≡ Equal → a ≡ b
same_target a b e = ap target_of (same_aim (aim_of a) (aim_of b) e)

-- a test that is that of the order
equivalence : (E : Aim → Aim → Bool) → ((a b : Aim) → E a b ≡ eq_by_cmp compare_aims a b) → IsEquivalence E
equivalence E ties =
    let is = eq_by_cmp_equiv compare_aims_total in record {
      refl = λ a. ties a a ∙ is.refl a;
      symm = λ a b. ties a b ∙ (is.symm a b ∙ sym (ties b a));
      congr = λ a b c e. ties a c ∙ (is.congr a b c (sym (ties a b) ∙ e) ∙ sym (ties b c));
    }

pub once : (E : Aim → Aim → Bool) (goes : List BranchTarget) (aims sorted set : List Aim) → ((a b : Aim) → E a b ≡ eq_by_cmp compare_aims a b) → map target_of aims ≡ goes → IsPermutation aims sorted → IsSorted compare_aims sorted → set ≡ dedup E sorted → AreTargets goes (map target_of set)
once E goes aims sorted set ties are moved up is =
    subst (λ (ts : List BranchTarget). AreTargets ts (map target_of set)) are (record {
      rises = rising_map target_of compare_targets set (subst (λ (xs : List Aim). IsStrictlySortedBy compare_aims xs) (sym is) (IsStrictlySortedBy-dedup compare_aims_total ties sorted up));
      all = λ target h. carried aims set target (λ a there. subst (λ (xs : List Aim). Contains xs a) (sym is) (Contains-dedup (equivalence E ties) one sorted a (Contains-permutation aims sorted a moved there))) h;
      only = λ target h. carried set aims target (λ a there. Contains-permutation sorted aims a (IsPermutation-sym aims sorted moved) (Contains-from_dedup E sorted a (subst (λ (xs : List Aim). Contains xs a) is there))) h;
    })
  where
    one : (a b : Aim) → E a b ≡ true → a ≡ b
    one a b e = same_aim a b (is_equal (compare_aims a b) (sym (ties a b) ∙ e))

    carried : (xs ys : List Aim) (target : BranchTarget) → ((a : Aim) → Contains xs a → Contains ys a) → Contains (map target_of xs) target → Contains (map target_of ys) target
    carried xs ys target f h =
        let found : (a : Aim) × In a xs × (target_of a ≡ target) = from_map target_of xs target (in_from_Contains (map target_of xs) target h) in
        Contains_from_in (map target_of ys) target (subst (λ (t : BranchTarget). In t (map target_of ys)) found.2 (in_map target_of ys found.0 (in_from_Contains ys found.0 (f found.0 (Contains_from_in xs found.0 found.1)))))
