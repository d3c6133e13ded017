-- What a search by position finds.
use Rattle.std.proofs.Common.{◌≡◌, ℕ, zero, suc, ◌+◌, ◌<◌, ◌≤◌, ◌⊎◌, ◌==◌, Bool, true, false, List, [], ◌∷◌, Some, None, length, get_or, map, find, refl, sym, ap, ◌∙◌, inl, inr, arith, eqb-true, eq-eqb}
use Rattle.std.specs.List.{AllByRecursion, HoldsAt}
use Rattle.std.specs.List.Sorted.{IsStrictlySortedBy, IsSorted, IsNonDecreasingBy, IsPartitionPoint}
use Rattle.std.specs.declared.cmp.Ordering.TheVariants.{Less, Equal, Greater}
use Rattle.std.specs.Ordering.{nat_cmp, on, is_lt, ordering_reverse, ordering_index}
use Rattle.std.proofs.lemmas.Bool.{cases_lt}
use Rattle.std.proofs.lemmas.Cmp.{nat_cmp_total, tied_itself}
use Rattle.std.proofs.lemmas.List.Sorted.{searchable_from_sorted}
use Rattle.list_lemmas.proofs.Members.{all_at}
use Rattle.list_lemmas.proofs.Rising.{rising_at}
use Rattle.list_lemmas.proofs.Ties.{same_number}
use Rattle.input_files.specs.Sources.{AreInOrder, inputs_of}
use Rattle.input_files.specs.declared.input.Input.{Input}
use Rattle.input_files.specs.declared.sources.Source.{Source}

abbrev position_of : Source → ℕ
position_of source = source.input.position

-- ---- sources rise by their positions

later_sources : (P : ℕ → Type 0) (sources : List Source) → AllByRecursion P (map (λ (input : Input). input.position) (inputs_of sources)) → AllByRecursion (λ (source : Source). P source.input.position) sources
later_sources P [] all = tt
later_sources P (source ∷ sources) all = (all.0, later_sources P sources all.1)

sources_rise : (sources : List Source) → AreInOrder (inputs_of sources) → IsStrictlySortedBy (on position_of nat_cmp) sources
unfolding IsStrictlySortedBy
sources_rise [] h = tt
sources_rise (source ∷ sources) h = (later_sources (λ (q : ℕ). nat_cmp source.input.position q ≡ Less) sources h.0, sources_rise sources h.1)

sources_sorted : (sources : List Source) → IsStrictlySortedBy (on position_of nat_cmp) sources → IsSorted (on position_of nat_cmp) sources
sources_sorted sources h = λ k d low high.
    ap is_lt (nat_cmp_total.antisymm (get_or sources (k + 1) d).input.position (get_or sources k d).input.position ∙ ap ordering_reverse (rising_at (on position_of nat_cmp) sources k (k + 1) d h (omega arith) high))

-- ---- the one that is found

below_is_other : (p q : ℕ) → nat_cmp p q ≡ Less → (p == q) ≡ false
below_is_other p q less = by (p == q) refl
  where
    by : (b : Bool) → (p == q) ≡ b → (p == q) ≡ false
    by true e = let same : p ≡ q = eqb-true p q e in absurd (let s : nat_cmp p p ≡ Less = ap (nat_cmp p) same ∙ less in let t = sym (tied_itself nat_cmp_total p) ∙ s in cc)
    by false e = e

found_there : (sources : List Source) (p at : ℕ) (d : Source) → IsStrictlySortedBy (on position_of nat_cmp) sources → at < length sources → (get_or sources at d).input.position ≡ p → find (λ source. source.input.position == p) sources ≡ Some (get_or sources at d)
unfolding IsStrictlySortedBy
found_there [] p at d h within is = absurd (omega (arith, within))
found_there (source ∷ sources) p zero d h within is =
    let here : (source.input.position == p) ≡ true = eq-eqb source.input.position p is in
    rw here refl
found_there (source ∷ sources) p (suc at) d h within is =
    let less : nat_cmp source.input.position (get_or sources at d).input.position ≡ Less = all_at (λ (other : Source). nat_cmp source.input.position other.input.position ≡ Less) sources at d h.0 (omega (arith, within)) in
    let away : (source.input.position == p) ≡ false = below_is_other source.input.position p (ap (nat_cmp source.input.position) (sym is) ∙ less) in
    rw away (found_there sources p at d h.1 (omega (arith, within)) is)

pub position_found : (sources : List Source) (p at : ℕ) (d : Source) → AreInOrder (inputs_of sources) → at < length sources → HoldsAt (λ (source : Source). nat_cmp source.input.position p ≡ Equal) sources at → Some (get_or sources at d) ≡ find (λ source. source.input.position == p) sources
position_found sources p at d order within holds =
    sym (found_there sources p at d (sources_rise sources order) within (same_number (get_or sources at d).input.position p (holds d)))

-- ---- none is found

not_there : (sources : List Source) (p : ℕ) → ((j : ℕ) (d : Source) → j < length sources → nat_cmp (get_or sources j d).input.position p ≡ Equal → ⊥) → find (λ source. source.input.position == p) sources ≡ None
not_there [] p none = refl
not_there (source ∷ sources) p none = by (not_there sources p (λ j d within. none (suc j) d (omega (arith, within)))) (source.input.position == p) refl
  where
    by : find (λ s. s.input.position == p) sources ≡ None → (b : Bool) → (source.input.position == p) ≡ b → find (λ s. s.input.position == p) (source ∷ sources) ≡ None
    by rest true e =
        let same : source.input.position ≡ p = eqb-true source.input.position p e in
        absurd (none 0 source (omega arith) (ap (nat_cmp source.input.position) (sym same) ∙ tied_itself nat_cmp_total source.input.position))
    by rest false e = rw e rest

less_or_equal : Less ≡ Equal → ⊥
less_or_equal e = cc

greater_or_equal : Greater ≡ Equal → ⊥
greater_or_equal e = cc

pub position_missing : (sources : List Source) (p at : ℕ) → AreInOrder (inputs_of sources) → (IsNonDecreasingBy (λ (source : Source). ordering_index (nat_cmp source.input.position p)) sources → IsPartitionPoint (λ (source : Source). nat_cmp source.input.position p ≡ Less) (λ (source : Source). nat_cmp source.input.position p ≡ Greater) sources at) → None ≡ find (λ source. source.input.position == p) sources
position_missing sources p at order parted = sym (not_there sources p apart)
  where
    parts : IsPartitionPoint (λ (source : Source). nat_cmp source.input.position p ≡ Less) (λ (source : Source). nat_cmp source.input.position p ≡ Greater) sources at
    parts = parted (searchable_from_sorted nat_cmp_total position_of sources p (sources_sorted sources (sources_rise sources order)))

    apart : (j : ℕ) (d : Source) → j < length sources → nat_cmp (get_or sources j d).input.position p ≡ Equal → ⊥
    apart j d within equal = where_is (cases_lt j at)
      where
        where_is : (j < at) ⊎ (at ≤ j) → ⊥
        where_is (inl down) = let less = parts.0 j d (omega (arith, within)) down in less_or_equal (sym less ∙ equal)
        where_is (inr up) = let greater = parts.1 j d up within in greater_or_equal (sym greater ∙ equal)
