-- Searches among what is in order.
use Rattle.std.proofs.Common.{◌≡◌, ℕ, ◌<◌, ◌≤◌, ◌⊎◌, ◌&&◌, Bool, true, false, List, [], ◌∷◌, get_or, length, map, count_by, refl, sym, ap, subst, ◌∙◌, inl, inr, arith}
use Rattle.std.specs.Cmp.{IsTotalOrder}
use Rattle.std.specs.Cmp.Lexicographic.{options_total}
use Rattle.std.specs.List.Sorted.{IsPartitionedBy, IsStrictlySortedBy}
use Rattle.std.specs.Ordering.{is_eq, is_lt, ordering_reverse}
use Rattle.std.specs.declared.cmp.Ordering.{Ordering}
use Rattle.std.specs.declared.cmp.Ordering.TheVariants.{Less}
use Rattle.std.proofs.Math.ListN.{get_or-map}
use Rattle.std.proofs.lemmas.Bool.{cases_Bool, cases_lt}
use Rattle.std.proofs.lemmas.Cmp.{int_cmp_total, nat_cmp_total, on_total, then_total, tied_itself}
use Rattle.std.proofs.lemmas.List.{get_or_default, length-map}
use Rattle.list_lemmas.proofs.Members.{In, any_from_in, any_true}
use Rattle.list_lemmas.proofs.Rising.{rising_at}
use Rattle.mo_types.proofs.KeyOrder.{compare_keys_total}
use Rattle.mo_types.specs.GoalOrder.{compare_goals_total}
use Rattle.mo_types.specs.Keys.{compare_keys}
use Rattle.mo_types.specs.declared.key.AtomKey.{AtomKey}
use Rattle.atom_index.proofs.Keys.{is_equal, same_key}
use Rattle.sect_place.specs.declared.island.BranchTarget.{BranchTarget}
use Rattle.islands.specs.Targets.{compare_targets, number_of}
use Rattle.islands.specs.Text.{has_key}
use Rattle.islands.proofs.Counting.{count_cons, count_to, is_less}

-- ---- keys

pub key_found : (keys : List AtomKey) (key : AtomKey) → In key keys → has_key keys key ≡ true
key_found keys key h = any_from_in (λ (k : AtomKey). is_eq (compare_keys k key)) keys key h (ap is_eq (tied_itself compare_keys_total key))

pub key_there : (keys : List AtomKey) (key : AtomKey) → has_key keys key ≡ true → In key keys
key_there keys key e =
    let found : (k : AtomKey) × In k keys × (is_eq (compare_keys k key) ≡ true) = any_true (λ (k : AtomKey). is_eq (compare_keys k key)) keys e in
    subst (λ (k : AtomKey). In k keys) (same_key found.0 key (is_equal (compare_keys found.0 key) found.2)) found.1

pub key_missing : (keys : List AtomKey) (key : AtomKey) → (In key keys → ⊥) → has_key keys key ≡ false
key_missing keys key none = elim (cases_Bool (has_key keys key)) [ inl e ↦ absurd (none (key_there keys key e)) | inr e ↦ e ]

-- ---- what is before an element

pub parted : {K : Type 0} {R : K → K → Ordering} → IsTotalOrder R → (xs : List K) (x : K) → IsStrictlySortedBy R xs → IsPartitionedBy (λ y. is_lt (R y x)) xs
parted {K = K} {R = R} o xs x rising i j d low within passes = by (cases_lt i j)
  where
    by : (i < j) ⊎ (j ≤ i) → is_lt (R (get_or xs i d) x) ≡ true
    by (inl less) = ap is_lt (o.trans (get_or xs i d) (get_or xs j d) x (rising_at R xs i j d rising less within) (is_less (R (get_or xs j d) x) passes))
    by (inr up) = let same : j ≡ i = omega (arith, low, up) in subst (λ (k : ℕ). is_lt (R (get_or xs k d) x) ≡ true) same passes

pub parted_map : {X K : Type 0} (f : X → K) (p : K → Bool) (xs : List X) → IsPartitionedBy p (map f xs) → IsPartitionedBy (λ x. p (f x)) xs
parted_map f p xs is i j d low within passes =
    subst (λ k. p k ≡ true) (get_or-map f xs i d)
    (is i j (f d) low (omega (arith, length-map xs f, within)) (subst (λ k. p k ≡ true) (sym (get_or-map f xs j d)) passes))

pub count_map : {X K : Type 0} (f : X → K) (p : K → Bool) (xs : List X) → count_by p (map f xs) ≡ count_by (λ x. p (f x)) xs
count_map f p [] = refl
count_map f p (x ∷ xs) = let rest = count_map f p xs in omega (arith, rest, count_cons p (f x) (map f xs), count_cons (λ y. p (f y)) x xs)

-- ---- targets

pub compare_targets_total : IsTotalOrder compare_targets
compare_targets_total =
    then_total (on_total (λ (t : BranchTarget). t.goal) compare_goals_total)
    (then_total (on_total (λ (t : BranchTarget). t.addend) int_cmp_total) (on_total (λ (t : BranchTarget). t.stub) (options_total nat_cmp_total)))

pub number_at : (targets : List BranchTarget) (k : ℕ) (target : BranchTarget) → IsStrictlySortedBy compare_targets targets → k < length targets → get_or targets k target ≡ target → number_of targets target ≡ k
number_at targets k target rises within is = count_to (λ (t : BranchTarget). is_lt (compare_targets t target)) targets k (omega (arith, within)) (front, back)
  where
    here : (d : BranchTarget) → get_or targets k d ≡ target
    here d = get_or_default targets k d target within ∙ is

    front : (j : ℕ) (d : BranchTarget) → 0 ≤ j → j < k → is_lt (compare_targets (get_or targets j d) target) ≡ true
    front j d low less = ap is_lt (subst (λ (t : BranchTarget). compare_targets (get_or targets j d) t ≡ Less) (here d) (rising_at compare_targets targets j k d rises less within))

    behind : (j : ℕ) (d : BranchTarget) → j < length targets → (k < j) ⊎ (j ≤ k) → k ≤ j → is_lt (compare_targets (get_or targets j d) target) ≡ false
    behind j d low (inl less) up =
        let after : compare_targets target (get_or targets j d) ≡ Less = subst (λ (t : BranchTarget). compare_targets t (get_or targets j d) ≡ Less) (here d) (rising_at compare_targets targets k j d rises less low) in
        ap is_lt (compare_targets_total.antisymm (get_or targets j d) target ∙ ap ordering_reverse after)
    behind j d low (inr down) up =
        let same : j ≡ k = omega (arith, down, up) in
        let at : get_or targets j d ≡ target = ap (λ (n : ℕ). get_or targets n d) same ∙ here d in
        ap is_lt (ap (λ (t : BranchTarget). compare_targets t target) at ∙ tied_itself compare_targets_total target)

    back : (j : ℕ) (d : BranchTarget) → k ≤ j → j < length targets → is_lt (compare_targets (get_or targets j d) target) ≡ false
    back j d up low = behind j d low (cases_lt k j) up

pub and_true : (a b r : Bool) → true ≡ a → r ≡ b → r ≡ (a && b)
and_true a b r e f = rw (sym e) f
