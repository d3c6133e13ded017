-- The first pointer with a fault.
use Rattle.std.proofs.Common.{◌≡◌, ◌≢◌, ℕ, ◌+◌, ◌<◌, true, List, length, get_or, Option, Some, None, is_some, refl, sym, ap, subst, ◌∙◌, inl, inr, arith}
use Rattle.std.specs.Prelude.{MatchOption}
use Rattle.std.specs.Cmp.{IsTotalOrder}
use Rattle.std.specs.Cmp.Lexicographic.{options_total}
use Rattle.std.specs.declared.cmp.Ordering.{Ordering}
use Rattle.std.specs.declared.cmp.Ordering.TheVariants.{Less, Equal, Greater}
use Rattle.std.proofs.lemmas.Bool.{cases_lt, false≢true}
use Rattle.std.specs.Ordering.{ordering_reverse}
use Rattle.std.proofs.lemmas.Cmp.{alike_right, nat_cmp_total, on_total, then_total, tied_itself}
use Rattle.std.proofs.lemmas.List.{get_or_default}
use Rattle.mo_types.proofs.KeyOrder.{compare_keys_total}
use Rattle.sect_place.specs.declared.layout.Layout.{Layout}
use Rattle.fixup_chain.specs.Faults.{IsFirstFault, compare_turns, fault_of}
use Rattle.fixup_chain.specs.inner.Turn.{AreSound, IsFirst, IsFirstAt}
use Rattle.fixup_chain.specs.declared.chains.ChainFault.{ChainFault}
use Rattle.fixup_chain.specs.declared.chains.Fixup.{Fixup}

pub turns_total : IsTotalOrder compare_turns
unfolding compare_turns
turns_total =
    then_total (on_total (λ (f : Fixup). f.atom) (options_total compare_keys_total))
    (then_total (on_total (λ (f : Fixup). f.place) nat_cmp_total) (on_total (λ (f : Fixup). f.address) nat_cmp_total))

-- ---- at most

not_greater : (o : Ordering) → o ≡ Less → o ≢ Greater
not_greater o e = λ f. cc

greater_turns : (x y : Fixup) → compare_turns x y ≡ Greater → compare_turns y x ≢ Greater
greater_turns x y e = let back = turns_total.antisymm y x in λ f. by (compare_turns x y) (compare_turns y x) e f back
  where
    by : (a b : Ordering) → a ≡ Greater → b ≡ Greater → b ≡ ordering_reverse a → ⊥
    by a b e f back = let g : b ≡ Less = back ∙ ap ordering_reverse e in cc

at_most : (x y z : Fixup) → compare_turns x y ≢ Greater → compare_turns y z ≢ Greater → compare_turns x z ≢ Greater
at_most x y z first second = by (compare_turns x y) (compare_turns y z) refl refl
  where
    by : (a b : Ordering) → compare_turns x y ≡ a → compare_turns y z ≡ b → compare_turns x z ≢ Greater
    by Greater b e f = absurd (first e)
    by a Greater e f = absurd (second f)
    by Equal b e f = λ g. second (sym (turns_total.congr x y z e) ∙ g)
    by Less Less e f = not_greater (compare_turns x z) (turns_total.trans x y z e f)
    by Less Equal e f = λ g. first (alike_right turns_total y z x f ∙ g)

itself : (x : Fixup) → compare_turns x x ≢ Greater
itself x = let e : compare_turns x x ≡ Equal = tied_itself turns_total x in λ f. cc

-- ---- the first of some pointers with a fault, and one more

same_turn : (layout : Layout) (a b : Fixup) → a ≡ b → is_some (fault_of layout a) ≡ true → is_some (fault_of layout b) ≡ true
same_turn layout a b e h = subst (λ (f : Fixup). is_some (fault_of layout f) ≡ true) e h

none_some : {X : Type 0} (o : Option X) → o ≡ None → is_some o ≡ true → ⊥
none_some o e h = by o e h
  where
    by : {X : Type 0} (o : Option X) → o ≡ None → is_some o ≡ true → ⊥
    by None e h = absurd (false≢true h)
    by (Some x) e h = cc

-- the pointer at the next index has no fault
pub turn_passes : (layout : Layout) (fixups : List Fixup) (at : ℕ) (x : Fixup) (first : Option ℕ) → IsFirst layout fixups at first → at < length fixups → x ≡ get_or fixups at x → fault_of layout x ≡ None → IsFirst layout fixups (at + 1) first
turn_passes layout fixups at x None sound within is none = record {
  none = λ k d low. elim (cases_lt k at) [
    | inl before ↦ sound.none k d before
    | inr past ↦ (let same : k ≡ at = omega (arith, low, past) in subst (λ (n : ℕ). fault_of layout (get_or fixups n d) ≡ None) (sym same) (subst (λ (f : Fixup). fault_of layout f ≡ None) (is ∙ get_or_default fixups at x d within) none))
  ];
}
turn_passes layout fixups at x (Some other) first within is none = record {
  within = omega (arith, first.within);
  faulty = first.faulty;
  first = λ k d low faulty. elim (cases_lt k at) [
    | inl before ↦ first.first k d before faulty
    | inr past ↦
        (let same : k ≡ at = omega (arith, low, past) in
        let here : get_or fixups k d ≡ x = ap (λ (n : ℕ). get_or fixups n d) same ∙ sym (is ∙ get_or_default fixups at x d within) in
        absurd (none_some (fault_of layout x) none (same_turn layout (get_or fixups k d) x here faulty)))
  ];
}

-- it has one, but comes later
pub turn_stays : (layout : Layout) (fixups : List Fixup) (at other : ℕ) (x y : Fixup) → IsFirstAt layout fixups at other → at < length fixups → x ≡ get_or fixups at x → y ≡ get_or fixups other y → compare_turns y x ≢ Greater → IsFirstAt layout fixups (at + 1) other
turn_stays layout fixups at other x y first within is there less = record {
  within = omega (arith, first.within);
  faulty = first.faulty;
  first = λ k d low faulty. elim (cases_lt k at) [
    | inl before ↦ first.first k d before faulty
    | inr past ↦
        (let same : k ≡ at = omega (arith, low, past) in
        let inside : other < length fixups = omega (arith, first.within, within) in
        let here : get_or fixups k d ≡ x = ap (λ (n : ℕ). get_or fixups n d) same ∙ sym (is ∙ get_or_default fixups at x d within) in
        let that : get_or fixups other d ≡ y = sym (there ∙ get_or_default fixups other y d inside) in
        subst (λ (f : Fixup). compare_turns f (get_or fixups k d) ≢ Greater) (sym that) (subst (λ (f : Fixup). compare_turns y f ≢ Greater) (sym here) less))
  ];
}

-- it has one, and comes earlier
pub turn_moves : (layout : Layout) (fixups : List Fixup) (at other : ℕ) (x y : Fixup) → IsFirstAt layout fixups at other → at < length fixups → x ≡ get_or fixups at x → y ≡ get_or fixups other y → is_some (fault_of layout x) ≡ true → compare_turns y x ≡ Greater → IsFirstAt layout fixups (at + 1) at
turn_moves layout fixups at other x y first within is there faulty greater = record {
  within = omega arith;
  faulty = λ d. same_turn layout x (get_or fixups at d) (is ∙ get_or_default fixups at x d within) faulty;
  first = λ k d low bad. elim (cases_lt k at) [
    | inl before ↦
        (let inside : other < length fixups = omega (arith, first.within, within) in
        let here : get_or fixups at d ≡ x = sym (is ∙ get_or_default fixups at x d within) in
        let that : get_or fixups other d ≡ y = sym (there ∙ get_or_default fixups other y d inside) in
        let below : compare_turns y (get_or fixups k d) ≢ Greater = subst (λ (f : Fixup). compare_turns f (get_or fixups k d) ≢ Greater) that (first.first k d before bad) in
        subst (λ (f : Fixup). compare_turns f (get_or fixups k d) ≢ Greater) (sym here) (at_most x y (get_or fixups k d) (greater_turns y x greater) below))
    | inr past ↦ (let same : k ≡ at = omega (arith, low, past) in subst (λ (n : ℕ). compare_turns (get_or fixups at d) (get_or fixups n d) ≢ Greater) (sym same) (itself (get_or fixups at d)))
  ];
}

-- it is the only one
pub turn_begins : (layout : Layout) (fixups : List Fixup) (at : ℕ) (x : Fixup) → AreSound layout fixups at → at < length fixups → x ≡ get_or fixups at x → is_some (fault_of layout x) ≡ true → IsFirstAt layout fixups (at + 1) at
turn_begins layout fixups at x sound within is faulty = record {
  within = omega arith;
  faulty = λ d. same_turn layout x (get_or fixups at d) (is ∙ get_or_default fixups at x d within) faulty;
  first = λ k d low bad. elim (cases_lt k at) [
    | inl before ↦ absurd (none_some (fault_of layout (get_or fixups k d)) (sound.none k d before) bad)
    | inr past ↦ (let same : k ≡ at = omega (arith, low, past) in subst (λ (n : ℕ). compare_turns (get_or fixups at d) (get_or fixups n d) ≢ Greater) (sym same) (itself (get_or fixups at d)))
  ];
}

-- a pointer has a fault where the call that looks for one gives one
pub has_fault : {X : Type 0} (o p : Option X) → o ≡ p → is_some o ≡ true → is_some p ≡ true
has_fault o p e h = sym (ap is_some e) ∙ h

pub ruleset turning = (turn_passes, turn_stays, turn_moves, turn_begins)

-- ---- the end

pub turn_ends : (layout : Layout) (fixups : List Fixup) (at : ℕ) (x : Fixup) (why : Option ChainFault) → IsFirstAt layout fixups (length fixups) at → x ≡ get_or fixups at x → why ≡ fault_of layout x → MatchOption why (AreSound layout fixups (length fixups)) (IsFirstFault layout fixups)
turn_ends layout fixups at x why first is e = by why e
  where
    same : (d : Fixup) → get_or fixups at d ≡ x
    same d = sym (is ∙ get_or_default fixups at x d first.within)

    by : (why : Option ChainFault) → why ≡ fault_of layout x → MatchOption why (AreSound layout fixups (length fixups)) (IsFirstFault layout fixups)
    by None e = absurd (none_some (fault_of layout x) (sym e) (same_turn layout (get_or fixups at x) x (same x) (first.faulty x)))
    by (Some fault) e = record {
      fixup = x;
      there = (at, first.within, sym is);
      is = sym e;
      first = λ other h faulty.
          let bad : is_some (fault_of layout (get_or fixups h.0 other)) ≡ true = same_turn layout other (get_or fixups h.0 other) (sym h.2) faulty in
          subst (λ (f : Fixup). compare_turns f other ≢ Greater) (same other)
          (subst (λ (f : Fixup). compare_turns (get_or fixups at other) f ≢ Greater) h.2 (first.first h.0 other h.1 bad));
    }

pub ruleset ending = (turn_ends)
