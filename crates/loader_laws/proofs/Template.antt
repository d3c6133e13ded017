-- The template of thread-local variables in an image begins where the first of its atoms stands.
use Rattle.std.proofs.Common.{◌≡◌, ◌≢◌, ℕ, ◌+◌, ◌*◌, ◌^◌, ◌≤◌, ◌⊎◌, Bool, true, false, List, [], ◌∷◌, find, length, map, Option, Some, None, inl, inr, Contains, refl, sym, ap, ◌∙◌, subst, arith}
use Rattle.std.specs.Option.{option_map}
use Rattle.std.proofs.lemmas.Bool.{false≢true}
use Rattle.std.proofs.lemmas.List.Sorted.{Contains-permutation}
use Rattle.list_lemmas.proofs.Members.{Contains_from_in, In, all_in, find_none, find_some, from_map}
use Rattle.mo_types.specs.declared.atom.Atom.{Atom}
use Rattle.mo_types.specs.declared.key.AtomKey.{AtomKey}
use Rattle.mo_types.specs.declared.out_section.OutSection.{OutSection}
use Rattle.patch.proofs.ChosenLemmas.{Pairs}
use Rattle.tlv_plan.specs.Template.{aligned, atoms_of, is_thread_local, stand}
use Rattle.sect_list.specs.OutSections.{out_sections}
use Rattle.sect_place.specs.Addresses.{address_in}
use Rattle.sect_place.specs.Arrangement.{section_of}
use Rattle.sect_place.specs.Layout.{image_places, image_sections, made_bytes, plan_of}
use Rattle.sect_place.specs.Places.{area_unit, spaced, with_area}
use Rattle.sect_place.specs.declared.layout.Layout.{Layout}
use Rattle.sect_place.specs.declared.layout.PlacedSection.{PlacedSection}
use Rattle.sect_place.specs.declared.part.Made.{Made}
use Rattle.sect_place.specs.declared.part.Made.TheVariants as made
use Rattle.sect_place.specs.declared.part.Part.{Part}
use Rattle.sect_place.proofs.AddressLemmas.{address_is}
use Rattle.sect_place.proofs.Around.{IsHeld, groups_held}
use Rattle.sect_place.proofs.Meaning.{sections_aligned, sections_apart}
use Rattle.sect_place.proofs.Positions.{finds, found_atom, keys_listed}
use Rattle.slot_place.proofs.SectionLemmas.{known, placed_groups}
use Rattle.ref_meet.specs.Template.{template_start}
use Rattle.image_make.specs.Atoms.{atom_of}
use Rattle.image_make.specs.Made.{IsLaid, ImageInputs, kept_of, plan_for, plan_with, sizes_of}
use Rattle.image_make.specs.declared.kept.KeptAtom.{KeptAtom}
use Rattle.image_make.proofs.KeptListLemmas.{rising_atoms}
use Rattle.image_make.proofs.LowLemmas.{in_layout, placed_found}
use Rattle.image_make.proofs.OwnLemmas.{have_atoms}
use Rattle.image_make.proofs.Rowed.{placed_once}
use Rattle.image_make.proofs.Spots.{HasAtoms, all_have, spot}
use Rattle.image_make.proofs.PairLemmas.{pairs_all}
use Rattle.image_laws.specs.Means.{AreRising}
use Rattle.image_laws.proofs.Loading.{from_all}
use Rattle.loader_laws.proofs.Aligned.{atoms_low, listed_found, stays}

-- ---- the first section that passes a test

abbrev Before : PlacedSection → PlacedSection → Type 0
Before p q = p.address + p.size ≤ q.address

first_below : (t : PlacedSection → Bool) (sections : List PlacedSection) (first other : PlacedSection) → Pairs Before sections → find t sections ≡ Some first → In other sections → t other ≡ true → first.address ≤ other.address
first_below t [] first other pairs e h passes = absurd h
first_below t (section ∷ sections) first other pairs e h passes = by (t section) refl e h (first_below t sections first other pairs.1)
  where
    same : section ≡ first → (section ≡ other) ⊎ In other sections → first.address ≤ other.address
    same is (inl here) = let equal : first.address ≡ other.address = ap (λ (p : PlacedSection). p.address) (sym is ∙ here) in omega arith
    same is (inr later) =
        let apart : section.address + section.size ≤ other.address = pairs.0 other later in
        let equal : section.address ≡ first.address = ap (λ (p : PlacedSection). p.address) is in
        omega (arith, apart, equal)

    later : t section ≡ false → (section ≡ other) ⊎ In other sections → In other sections
    later fails (inl here) = absurd (false≢true (sym fails ∙ ap t here ∙ passes))
    later fails (inr there) = there

    by : (b : Bool) → t section ≡ b → find t (section ∷ sections) ≡ Some first → (section ≡ other) ⊎ In other sections → (find t sections ≡ Some first → In other sections → t other ≡ true → first.address ≤ other.address) → first.address ≤ other.address
    by true f g there rest = same (let is : Some section ≡ Some first = rw f at g in cc) there
    by false f g there rest = rest (rw f at g) (later f there) passes

sections_turn : (m : ImageInputs) (layout : Layout) → IsLaid m layout → Pairs Before layout.sections
sections_turn m layout laid = subst (Pairs Before) (sym laid.layout_of.sections) (pairs_all Before (image_sections (plan_for m)) (sections_apart (plan_for m)))

-- ---- the section of a placed atom

-- a section of the layout lists a placed atom, which stands in it
pub record IsHosted (layout : Layout) (key : AtomKey) (address : ℕ) : Type 0 where
  pub host : PlacedSection
  pub among : In host layout.sections
  pub lists : In key host.section.atoms
  pub from : host.address ≤ address

pub hosted : (m : ImageInputs) (layout : Layout) (key : AtomKey) (address : ℕ) → IsLaid m layout → address_in layout.placed key ≡ Some address → IsHosted layout key address
unfolding plan_with plan_of image_places image_sections
hosted m layout key address laid stood =
    let plan = plan_for m in
    let found = placed_found layout.placed key address stood in
    let atoms = map atom_of (kept_of m) in
    let held : IsHeld (image_sections plan) found.0 = groups_held atoms m.islands.areas (area_unit (out_sections m.files atoms)) plan.base 0 plan.lead plan.groups found.0 (in_layout m layout found.0 laid found.1) in
    record {
      host = held.host;
      among = subst (λ (ss : List PlacedSection). In held.host ss) (sym laid.layout_of.sections) held.there;
      lists = subst (λ (k : AtomKey). In k held.host.section.atoms) found.2 held.lists;
      from = subst (λ (n : ℕ). held.host.address ≤ n) found.3 held.from;
    }

-- ---- the sections with atoms

-- a section is one with atoms, or one of the linker's own, which lists none
given : (m : ImageInputs) (layout : Layout) (p : PlacedSection) → IsLaid m layout → In p layout.sections → In p.section (out_sections m.files (map atom_of (kept_of m))) ⊎ ((which : Made) × (p.section ≡ section_of which))
unfolding plan_with plan_of image_sections
given m layout p laid h =
    let plan = plan_for m in
    let sections : List OutSection = out_sections m.files (map atom_of (kept_of m)) in
    let bytes = made_bytes m.slots (sizes_of m.command m.libs (length m.info)) in
    let part = placed_groups plan.atoms plan.base 0 plan.lead plan.groups p (subst (λ (ss : List PlacedSection). In p ss) laid.layout_of.sections h) in
    elim (known sections bytes part.part part.planned) [
      | inl listed ↦ inl (subst (λ (s : OutSection). In s sections) (sym part.same) listed)
      | inr own ↦ inr (own.0, part.same ∙ ap (λ (q : Part). q.section) own.1)
    ]

own_empty : (which : Made) (key : AtomKey) → In key (section_of which).atoms → ⊥
own_empty made.Stubs key h = h
own_empty made.UnwindInfo key h = h
own_empty made.Got key h = h
own_empty made.ThreadPtrs key h = h

own_away : (which : Made) → is_thread_local (section_of which) ≡ false
own_away made.Stubs = refl
own_away made.UnwindInfo = refl
own_away made.Got = refl
own_away made.ThreadPtrs = refl

listing : (m : ImageInputs) (layout : Layout) (p : PlacedSection) (key : AtomKey) → IsLaid m layout → In p layout.sections → In key p.section.atoms → In p.section (out_sections m.files (map atom_of (kept_of m)))
listing m layout p key laid h listed = elim (given m layout p laid h) [
  | inl among ↦ among
  | inr own ↦ absurd (own_empty own.0 key (subst (λ (s : OutSection). In key s.atoms) own.1 listed))
]

thread_local_listing : (m : ImageInputs) (layout : Layout) (p : PlacedSection) → IsLaid m layout → In p layout.sections → is_thread_local p.section ≡ true → In p.section (out_sections m.files (map atom_of (kept_of m)))
thread_local_listing m layout p laid h local = elim (given m layout p laid h) [
  | inl among ↦ among
  | inr own ↦ absurd (false≢true (sym (own_away own.0) ∙ ap is_thread_local (sym own.1) ∙ local))
]

-- a placed atom is kept
pub placed_kept : (m : ImageInputs) (layout : Layout) (key : AtomKey) (address : ℕ) → IsLaid m layout → address_in layout.placed key ≡ Some address → (one : KeptAtom) × In one (kept_of m) × (one.atom.key ≡ key)
placed_kept m layout key address laid stood =
    let atoms = map atom_of (kept_of m) in
    let at = hosted m layout key address laid stood in
    let found = listed_found m.files atoms at.host.section key (listing m layout at.host key laid at.among at.lists) at.lists in
    let is = found_atom atoms key found.0 found.1 in
    let one : (k : KeptAtom) × In k (kept_of m) × (k.atom ≡ found.0) = from_map atom_of (kept_of m) found.0 is.1 in
    (one.0, one.1, ap (λ (a : Atom). a.key) one.2 ∙ is.0)

-- ---- the first atom of a section

-- some keys begin with that of a kept atom
record HasFirst (kept : List Atom) (keys : List AtomKey) : Type 0 where
  pub atom : Atom
  pub rest : List Atom
  pub is : atoms_of kept keys ≡ atom ∷ rest

first_of : (kept : List Atom) (keys : List AtomKey) → keys ≢ [] → ((key : AtomKey) → In key keys → (atom : Atom) × (finds kept key ≡ Some atom)) → HasFirst kept keys
unfolding atoms_of
first_of kept [] some found = absurd (some refl)
first_of kept (key ∷ keys) some found =
    let one = found key (inl refl) in
    record { atom = one.0; rest = atoms_of kept keys; is = rw one.1 refl }

stand_first : (at : ℕ) (atom : Atom) (atoms rest : List Atom) → atoms ≡ atom ∷ rest → In (atom, aligned atom.align at) (stand at atoms)
unfolding stand
stand_first at atom atoms rest is = rw is (inl refl)

-- an atom stands at the start of a section that lists it
pub record HasStart (layout : Layout) (p : PlacedSection) : Type 0 where
  pub key : AtomKey
  pub lists : In key p.section.atoms
  pub stands : address_in layout.placed key ≡ Some p.address

pub has_start : (m : ImageInputs) (layout : Layout) (p : PlacedSection) → AreRising m → IsLaid m layout → In p layout.sections → is_thread_local p.section ≡ true → HasStart layout p
unfolding plan_with plan_of spaced
has_start m layout p rising laid h local =
    let plan = plan_for m in
    let atoms = map atom_of (kept_of m) in
    let sections : List OutSection = out_sections m.files atoms in
    let among : In p.section sections = thread_local_listing m layout p laid h local in
    let some : p.section.atoms ≢ [] = from_all (λ (s : OutSection). s.atoms ≢ []) sections p.section (have_atoms m.files atoms) among in
    let first = first_of atoms p.section.atoms some (λ key listed. listed_found m.files atoms p.section key among listed) in
    let there : In first.atom (atoms_of atoms p.section.atoms) = subst (λ (xs : List Atom). In first.atom xs) (sym first.is) (inl refl) in
    let low : first.atom.align ≤ p.section.align = atoms_low m.files atoms (rising_atoms (kept_of m) rising) p.section first.atom among there in
    let planned : In p (image_sections plan) = subst (λ (ss : List PlacedSection). In p ss) laid.layout_of.sections h in
    let whole = from_all (λ (q : PlacedSection). (count : ℕ) × (q.address ≡ count * 2 ^ q.section.align)) (image_sections plan) p (sections_aligned plan) planned in
    let wide : Atom = with_area m.islands.areas (area_unit sections) first.atom in
    let begins : In (wide, aligned wide.align p.address) (stand p.address (plan.atoms p.section.atoms)) =
    stand_first p.address wide (plan.atoms p.section.atoms) (map (with_area m.islands.areas (area_unit sections)) first.rest) (ap (map (with_area m.islands.areas (area_unit sections))) first.is) in
    let here : In (wide, p.address) (stand p.address (plan.atoms p.section.atoms)) =
    subst (λ (n : ℕ). In (wide, n) (stand p.address (plan.atoms p.section.atoms))) (stays first.atom.align p.section.align p.address whole.0 low whole.1) begins in
    let place : In (spot wide p.address) (image_places plan) = (all_in (HasAtoms plan.atoms (image_places plan)) (image_sections plan) p (all_have plan) planned wide p.address here).0 in
    let placed : Contains layout.placed (record { atom = first.atom.key; address = p.address }) = Contains-permutation (image_places plan) layout.placed (spot wide p.address) laid.layout_of.places (Contains_from_in (image_places plan) (spot wide p.address) place) in
    record {
      key = first.atom.key;
      lists = keys_listed atoms p.section.atoms first.atom there;
      stands = sym (address_is layout.placed first.atom.key (Some p.address) (placed_once m layout rising laid) placed);
    }

-- ---- where the template begins

-- The template begins at an address: an atom of one of its sections stands there, and none of any stands before.
pub record IsTemplateStart (m : ImageInputs) (layout : Layout) (start : ℕ) : Type 0 where
  pub begins : template_start layout.sections ≡ Some start
  pub section : PlacedSection
  pub among : In section layout.sections
  pub local : is_thread_local section.section ≡ true
  pub first : AtomKey
  pub lists : In first section.section.atoms
  pub stands : address_in layout.placed first ≡ Some start
  pub least : (p : PlacedSection) → In p layout.sections → is_thread_local p.section ≡ true → start ≤ p.address

pub starts : (m : ImageInputs) (layout : Layout) (some : PlacedSection) → AreRising m → IsLaid m layout → In some layout.sections → is_thread_local some.section ≡ true → (start : ℕ) × IsTemplateStart m layout start
unfolding template_start
starts m layout some rising laid h local = by (find test layout.sections) refl
  where
    test : PlacedSection → Bool
    test placed = is_thread_local placed.section

    by : (o : Option PlacedSection) → find test layout.sections ≡ o → (start : ℕ) × IsTemplateStart m layout start
    by None e = absurd (false≢true (sym (find_none test layout.sections some e h) ∙ local))
    by (Some p) e =
        let is = find_some test layout.sections p e in
        let start = has_start m layout p rising laid is.0 is.1 in (
          p.address,
          record {
            begins = ap (option_map (λ (placed : PlacedSection). placed.address)) e;
            section = p;
            among = is.0;
            local = is.1;
            first = start.key;
            lists = start.lists;
            stands = start.stands;
            least = λ q k passes. first_below test layout.sections p q (sections_turn m layout laid) e k passes;
          },
        )
