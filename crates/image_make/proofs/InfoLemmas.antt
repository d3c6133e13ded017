-- `__unwind_info` of an image: that it has it exactly where there are bytes for it, with as many.
use Rattle.std.proofs.Common.{◌≡◌, ◌≢◌, ℕ, ◌==◌, ◌++◌, Bool, true, false, List, [], ◌∷◌, length, Option, Some, None, refl, sym, ap, ◌∙◌, subst, inl, inr, arith, eqb-true, if◌then◌else◌}
use Rattle.std.specs.Prelude.{MatchOption}
use Rattle.std.proofs.lemmas.Bool.{false≢true}
use Rattle.list_lemmas.proofs.Members.{In, find_none, find_some, in_left, in_right}
use Rattle.mo_types.specs.declared.atom.Atom.{Atom}
use Rattle.mo_types.specs.declared.key.AtomKey.{AtomKey}
use Rattle.mo_types.specs.declared.out_section.OutSection.{OutSection}
use Rattle.tlv_plan.specs.Template.{atoms_of}
use Rattle.sect_place.specs.Arrangement.{MadeBytes, own, section_of}
use Rattle.sect_place.specs.Layout.{made_bytes, plan_of}
use Rattle.sect_place.specs.Places.{parts_sections, placed_section, spaced}
use Rattle.sect_place.specs.declared.layout.Layout.{Layout}
use Rattle.sect_place.specs.declared.layout.PlacedSection.{PlacedSection}
use Rattle.sect_place.specs.declared.part.Made.{Made}
use Rattle.sect_place.specs.declared.part.Made.TheVariants as made
use Rattle.sect_place.specs.declared.part.Part.{Part}
use Rattle.slot_place.specs.Places.{is_made_as}
use Rattle.slot_place.proofs.SectionLemmas.{placed_parts}
use Rattle.patch.proofs.ChosenLemmas.{both}
use Rattle.image_make.specs.Made.{IsLaid, ImageInputs, plan_for, plan_with, sizes_of}
use Rattle.image_make.specs.Parts.{HasInfoSection, info_section}
use Rattle.image_make.proofs.TurnLemmas.{AreSplit, IsOwn, laid_split, made_in, piece}

-- ---- a section that is like it

abbrev is_info : PlacedSection → Bool
is_info placed = is_made_as (section_of made.UnwindInfo) placed.section

is_none : (keys : List AtomKey) → (length keys == 0) ≡ true → keys ≡ []
is_none [] e = refl
is_none (key ∷ keys) e = absurd (let none = eqb-true (length (key ∷ keys)) 0 e in omega (arith, none))

no_atoms : (section : OutSection) → is_made_as (section_of made.UnwindInfo) section ≡ true → section.atoms ≡ []
no_atoms section e = is_none section.atoms (both _ _ e).1

alone : (which : Made) → is_made_as (section_of made.UnwindInfo) (section_of which) ≡ true → which ≡ made.UnwindInfo
alone made.Stubs e = absurd (false≢true e)
alone made.UnwindInfo e = refl
alone made.Got e = absurd (false≢true e)
alone made.ThreadPtrs e = absurd (false≢true e)

-- ---- the one that is placed

abbrev info_of : ℕ → Part
info_of n = record { section = section_of made.UnwindInfo; fixed = n }

own_info : (n : ℕ) (part : Part) → In part (own made.UnwindInfo n) → (info_of n ≡ part) × (n ≢ 0)
own_info n part h = by (n == 0) refl h
  where
    by : (b : Bool) → (n == 0) ≡ b → In part (if b then [] else info_of n ∷ []) → (info_of n ≡ part) × (n ≢ 0)
    by true e there = absurd there
    by false e (inl is) = (is, λ none. false≢true (sym e ∙ ap (λ (k : ℕ). k == 0) none))
    by false e (inr never) = absurd never

placed_info : (atoms : List AtomKey → List Atom) (start file at n : ℕ) (p : PlacedSection) → atoms [] ≡ [] → In p (parts_sections atoms start file at (own made.UnwindInfo n)) → (p.size ≡ n) × (n ≢ 0)
placed_info atoms start file at n p none h =
    let placed = placed_parts atoms start file at (own made.UnwindInfo n) p h in
    let is = own_info n placed.part placed.planned in
    let bare : atoms placed.part.section.atoms ≡ [] = subst (λ (part : Part). atoms part.section.atoms ≡ []) is.0 none in
    (placed.sized bare ∙ ap (λ (part : Part). part.fixed) (sym is.0), is.1)

info_there : (atoms : List AtomKey → List Atom) (start file at n : ℕ) → n ≢ 0 → (p : PlacedSection) × In p (parts_sections atoms start file at (own made.UnwindInfo n)) × (p.section ≡ section_of made.UnwindInfo)
unfolding parts_sections placed_section
info_there atoms start file at n some = by (n == 0) refl
  where
    by : (b : Bool) → (n == 0) ≡ b → (p : PlacedSection) × In p (parts_sections atoms start file at (if b then [] else info_of n ∷ [])) × (p.section ≡ section_of made.UnwindInfo)
    by true e = absurd (some (eqb-true n 0 e))
    by false e = (placed_section atoms start file at (info_of n), inl refl, refl)

-- ---- of an image

atoms_none : (m : ImageInputs) → (plan_for m).atoms [] ≡ []
unfolding plan_with plan_of spaced atoms_of
atoms_none m = refl

abbrev bytes_of : ImageInputs → MadeBytes
bytes_of m = made_bytes m.slots (sizes_of m.command m.libs (length m.info))

unwound_in : (m : ImageInputs) (layout : Layout) (split : AreSplit (plan_for m).atoms (bytes_of m) layout.sections) (p : PlacedSection) → In p split.unwound → In p layout.sections
unwound_in m layout split p h =
    subst (λ (ss : List PlacedSection). In p ss) (sym split.joined)
    (in_right split.text (split.unwound ++ (split.constant ++ (split.writable ++ split.others))) p (in_left split.unwound (split.constant ++ (split.writable ++ split.others)) p h))

-- what is known of it
pub record IsInfoOf (m : ImageInputs) (layout : Layout) (p : PlacedSection) : Type 0 where
  pub own : IsOwn layout made.UnwindInfo p
  pub sized : p.size ≡ length m.info
  pub some : m.info ≢ []

pub info_found : (m : ImageInputs) (layout : Layout) (p : PlacedSection) → IsLaid m layout → info_section layout.sections ≡ Some p → IsInfoOf m layout p
unfolding info_section
info_found m layout p laid e =
    let split = laid_split m layout laid in
    let found = find_some is_info layout.sections p e in
    let one = made_in (plan_for m).atoms (bytes_of m) layout.sections split p found.0 (no_atoms p.section found.1) in
    let which : one.0 ≡ made.UnwindInfo = alone one.0 (subst (λ (section : OutSection). is_made_as (section_of made.UnwindInfo) section ≡ true) one.1 found.1) in
    let there : In p split.unwound = subst (λ (w : Made). In p (piece split w)) which one.2 in
    let placed = placed_info (plan_for m).atoms split.start split.file split.at (length m.info) p (atoms_none m) (subst (λ (ss : List PlacedSection). In p ss) split.planned there) in
    record { own = (one.1 ∙ ap section_of which, found.0); sized = placed.0; some = λ none. placed.1 (ap length none) }

is_empty : (info : List ℕ) → (length info ≢ 0 → ⊥) → info ≡ []
is_empty [] none = refl
is_empty (byte ∷ info) none = absurd (none (λ zero. omega (arith, zero)))

info_missing : (m : ImageInputs) (layout : Layout) → IsLaid m layout → info_section layout.sections ≡ None → m.info ≡ []
unfolding info_section
info_missing m layout laid e = is_empty m.info (λ some.
    let split = laid_split m layout laid in
    let there = info_there (plan_for m).atoms split.start split.file split.at (length m.info) some in
    let placed : In there.0 split.unwound = subst (λ (ss : List PlacedSection). In there.0 ss) (sym split.planned) there.1 in
    let away : is_info there.0 ≡ false = find_none is_info layout.sections there.0 e (unwound_in m layout split there.0 placed) in
    false≢true (sym away ∙ subst (λ (section : OutSection). is_made_as (section_of made.UnwindInfo) section ≡ true) (sym there.2) refl))

pub info_is : (m : ImageInputs) (layout : Layout) → IsLaid m layout → HasInfoSection layout.sections m.info
info_is m layout laid = by (info_section layout.sections) refl
  where
    by : (o : Option PlacedSection) → info_section layout.sections ≡ o → MatchOption o (m.info ≡ []) (λ (placed : PlacedSection). (m.info ≢ []) × (placed.size ≡ length m.info))
    by None e = info_missing m layout laid e
    by (Some p) e = let is = info_found m layout p laid e in (is.some, is.sized)
