-- There is an answer for all pointers.
use Rattle.std.proofs.Common.{◌≡◌, ◌≢◌, ℕ, zero, suc, ◌+◌, ◌<◌, ◌≤◌, ◌⊎◌, Bool, true, false, List, [], ◌∷◌, length, get_or, Option, Some, None, is_some, if◌then◌else◌, pos, ◌-ℤ◌, refl, sym, ap, subst, ◌∙◌, inl, inr, arith}
use Rattle.std.specs.Prelude.{MatchOption}
use Rattle.std.specs.declared.cmp.Ordering.{Ordering}
use Rattle.std.specs.declared.cmp.Ordering.TheVariants.{Less, Equal, Greater}
use Rattle.std.proofs.lemmas.Bool.{cases_lt}
use Rattle.std.proofs.lemmas.List.{get_or_default}
use Rattle.mo_types.specs.declared.cause.RangeKind.TheVariants.{FixupPlace, RebaseTarget}
use Rattle.mo_types.specs.declared.cause.Which.TheVariants as which
use Rattle.sect_place.specs.declared.layout.Layout.{Layout}
use Rattle.fixup_chain.specs.Chained.{AreChains, IsCause}
use Rattle.fixup_chain.specs.Encoded.{IMPORTS, blob_of}
use Rattle.fixup_chain.specs.Faults.{IsFirstFault, base_of, compare_turns, fault_of, is_far, is_misplaced, range_of, target_of}
use Rattle.fixup_chain.specs.Imports.{is_wide, pool_of}
use Rattle.fixup_chain.specs.Places.{addresses_of}
use Rattle.fixup_chain.specs.Words.{words_of}
use Rattle.fixup_chain.specs.declared.chains.ChainFault.{ChainFault}
use Rattle.fixup_chain.specs.declared.chains.ChainFault.TheVariants as fault
use Rattle.fixup_chain.specs.declared.chains.Chains.{Chains}
use Rattle.fixup_chain.specs.declared.chains.Fixup.{Fixup}
use Rattle.fixup_chain.specs.inner.Held.{imports_in}
use Rattle.fixup_chain.specs.inner.Turn.{AreSound, IsFirst}
use Rattle.fixup_chain.proofs.EncodeLemmas.{refused_made}
use Rattle.fixup_chain.proofs.ImportLemmas.{forms}
use Rattle.fixup_chain.proofs.TurnLemmas.{turn_begins, turn_ends, turn_moves, turn_passes, turn_stays}

-- ---- of some pointers with a fault one is the first

-- an answer for some pointers and one more
one_more : (layout : Layout) (fixups : List Fixup) (at : ℕ) (x : Fixup) → at < length fixups → x ≡ get_or fixups at x → (first : Option ℕ) → IsFirst layout fixups at first → (next : Option ℕ) × IsFirst layout fixups (at + 1) next
one_more layout fixups at x within is first so_far = by first so_far (fault_of layout x) refl
  where
    by : (first : Option ℕ) → IsFirst layout fixups at first → (o : Option ChainFault) → fault_of layout x ≡ o → (next : Option ℕ) × IsFirst layout fixups (at + 1) next
    by first so_far None e = (first, turn_passes layout fixups at x first so_far within is e)
    by None so_far (Some why) e = (Some at, turn_begins layout fixups at x so_far within is (ap is_some e))
    by (Some other) so_far (Some why) e = turn (compare_turns y x) refl
      where
        y : Fixup
        y = get_or fixups other x

        there : y ≡ get_or fixups other y
        there = get_or_default fixups other x y (omega (arith, within, so_far.within))

        turn : (o : Ordering) → compare_turns y x ≡ o → (next : Option ℕ) × IsFirst layout fixups (at + 1) next
        turn Less f = (Some other, turn_stays layout fixups at other x y so_far within is there (λ g. let h : Less ≡ Greater = sym f ∙ g in cc))
        turn Equal f = (Some other, turn_stays layout fixups at other x y so_far within is there (λ g. let h : Equal ≡ Greater = sym f ∙ g in cc))
        turn Greater f = (Some at, turn_moves layout fixups at other x y so_far within is there (ap is_some e) f)

first_up_to : (layout : Layout) (fixups : List Fixup) (d : Fixup) (count : ℕ) → count ≤ length fixups → (first : Option ℕ) × IsFirst layout fixups count first
first_up_to layout fixups d zero low = (None, record { none = λ k g less. absurd (omega (arith, less)) })
first_up_to layout fixups d (suc count) low =
    let before = first_up_to layout fixups d count (omega (arith, low)) in
    let within : count < length fixups = omega (arith, low) in
    let x : Fixup = get_or fixups count d in
    let after = one_more layout fixups count x within (get_or_default fixups count d x within) before.0 before.1 in
    let same : count + 1 ≡ suc count = omega arith in
    (after.0, subst (λ (n : ℕ). IsFirst layout fixups n after.0) same after.1)

sound_or_fault : (layout : Layout) (fixups : List Fixup) → AreSound layout fixups (length fixups) ⊎ ((why : ChainFault) × IsFirstFault layout fixups why)
sound_or_fault layout [] = inl (record { none = λ k d less. absurd (omega (arith, less)) })
sound_or_fault layout (d ∷ rest) = let all = first_up_to layout (d ∷ rest) d (length (d ∷ rest)) (omega arith) in by all.0 all.1
  where
    fixups : List Fixup
    fixups = d ∷ rest

    told : (why : Option ChainFault) → MatchOption why (AreSound layout fixups (length fixups)) (IsFirstFault layout fixups) → AreSound layout fixups (length fixups) ⊎ ((why : ChainFault) × IsFirstFault layout fixups why)
    told None sound = inl sound
    told (Some why) first = inr (why, first)

    by : (first : Option ℕ) → IsFirst layout fixups (length fixups) first → AreSound layout fixups (length fixups) ⊎ ((why : ChainFault) × IsFirstFault layout fixups why)
    by None sound = inl sound
    by (Some at) first =
        let x : Fixup = get_or fixups at d in
        let why : Option ChainFault = fault_of layout x in
        told why (turn_ends layout fixups at x why first (get_or_default fixups at d x first.within) refl)

-- ---- an answer

-- a pointer's fault isn't want of memory
no_memory : (layout : Layout) (fixup : Fixup) (why : ChainFault) → fault_of layout fixup ≡ Some why → why ≢ fault.OutOfMemory
unfolding fault_of
no_memory layout fixup why e = λ out. by (is_far layout fixup) (is_misplaced layout.segments fixup.address) (e ∙ ap Some out)
  where
    by : (far misplaced : Bool) → (if far then Some (range_of fixup RebaseTarget (target_of layout fixup)) else if misplaced then Some (range_of fixup FixupPlace (pos fixup.address -ℤ pos (base_of layout.segments))) else None) ≡ Some fault.OutOfMemory → ⊥
    by true misplaced f = cc
    by false true f = cc
    by false false f = cc

abbrev HaveAnswer : Layout → List Fixup → Type 0
HaveAnswer layout fixups =
    ((chains : Chains) × AreChains layout fixups chains) ⊎ ((why : ChainFault) × (why ≢ fault.OutOfMemory) × IsCause layout fixups why)

many_answered : (layout : Layout) (fixups : List Fixup) (wide : Bool) → wide ≡ is_wide fixups (pool_of (imports_in false fixups)) → IMPORTS ≤ length (imports_in wide fixups) → HaveAnswer layout fixups
many_answered layout fixups wide form many =
    inr (fault.Limit which.Imports, (λ e. cc), (refl, record { wide = wide; imports = imports_in wide fixups; formed = forms fixups wide form; many = many }))

few_answered : (layout : Layout) (fixups : List Fixup) (wide : Bool) → wide ≡ is_wide fixups (pool_of (imports_in false fixups)) → length (imports_in wide fixups) < IMPORTS → HaveAnswer layout fixups
few_answered layout fixups wide form few = elim (sound_or_fault layout fixups) [
  | inl sound ↦ inl (
    record {
      words = words_of (target_of layout) wide (imports_in wide fixups) fixups;
      blob = blob_of (addresses_of fixups) (base_of layout.segments) layout.segments wide (imports_in wide fixups);
    },
    record {
      wide = wide;
      imports = imports_in wide fixups;
      formed = forms fixups wide form;
      few = few;
      sound = λ fixup (k, low, is). ap (fault_of layout) (sym is) ∙ sound.none k fixup low;
      words = refl;
      blob = refl;
    },
  )
  | inr (why, first) ↦ inr (
    why,
    no_memory layout first.fixup why first.is,
    refused_made layout fixups fixups wide (imports_in wide fixups) why refl (forms fixups wide form) few first,
  )
]

pub an_answer : (layout : Layout) (fixups : List Fixup) → ((chains : Chains) × AreChains layout fixups chains) ⊎ ((why : ChainFault) × (why ≢ fault.OutOfMemory) × IsCause layout fixups why)
an_answer layout fixups =
    let wide : Bool = is_wide fixups (pool_of (imports_in false fixups)) in
    elim (cases_lt (length (imports_in wide fixups)) IMPORTS) [
      | inl few ↦ few_answered layout fixups wide refl few
      | inr many ↦ many_answered layout fixups wide refl many
    ]
