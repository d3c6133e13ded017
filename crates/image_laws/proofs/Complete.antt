-- Each kept atom that has a section stands in one of the image's.
use Rattle.std.proofs.Common.{◌≡◌, ℕ, ◌+◌, ◌⊎◌, inl, inr, true, false, not, List, [], ◌∷◌, ◌++◌, length, map, Some, Contains, refl, sym, ap, subst}
use Rattle.std.specs.List.{filter}
use Rattle.std.proofs.lemmas.Bool.{cases_Bool}
use Rattle.std.proofs.lemmas.List.Sorted.{Contains-permutation}
use Rattle.list_lemmas.proofs.Members.{Contains_from_in, In, from_map, in_filter, in_from_Contains, in_map, in_either, in_filter_map, in_flat, in_left, in_right}
use Rattle.mo_types.specs.Whole.{is_zerofill}
use Rattle.mo_types.specs.declared.atom.Atom.{Atom}
use Rattle.mo_types.specs.declared.key.AtomKey.{AtomKey}
use Rattle.tlv_plan.specs.Template.{aligned, atoms_of, stand}
use Rattle.sect_place.specs.Layout.{Plan, image_places, image_sections, plan_of}
use Rattle.sect_list.specs.OutSections.{Home, home_of, out_sections}
use Rattle.sect_place.specs.Places.{area_unit, file_bytes, group_end, groups_places, groups_sections, page_up, part_end, part_from, parts_places, parts_sections, placed_section, places, spaced, with_area}
use Rattle.sect_place.specs.declared.island.IslandArea.{IslandArea}
use Rattle.sect_place.specs.declared.layout.Layout.{Layout}
use Rattle.sect_place.specs.declared.layout.Placed.{Placed}
use Rattle.sect_place.specs.declared.layout.PlacedSection.{PlacedSection}
use Rattle.sect_place.specs.declared.part.Group.{Group}
use Rattle.sect_place.specs.declared.part.Part.{Part}
use Rattle.sect_list.proofs.Listed.{kept_are_listed}
use Rattle.sect_place.proofs.Positions.{keys_listed, placed_there}
use Rattle.sect_place.specs.Addresses.{address_in}
use Rattle.image_make.specs.Atoms.{atom_of, kept_at}
use Rattle.image_make.specs.Rows.{has_bytes, row_at, row_of, rows, section_rows}
use Rattle.patch.specs.declared.range.PlacedWork.{PlacedWork}
use Rattle.image_make.specs.declared.kept.KeptAtom.{KeptAtom}
use Rattle.sect_place.proofs.AddressLemmas.{address_is}
use Rattle.image_make.specs.Made.{IsLaid, ImageInputs, kept_of, plan_for, plan_with, rows_of, scene_of, sizes_of}
use Rattle.image_laws.specs.Means.{AreRising, IsWritten, IsZerofill}
use Rattle.image_laws.proofs.Rowed.{kept_found, placed_once}
use Rattle.image_laws.proofs.Spots.{spot}

-- ---- from a place to its section

-- a place is that of an atom of one of some sections
record HasHome (atoms : List AtomKey → List Atom) (sections : List PlacedSection) (p : Placed) : Type 0 where
  pub section : PlacedSection
  pub among : In section sections
  pub atom : Atom
  pub of_section : In atom (atoms section.section.atoms)
  pub named : atom.key ≡ p.atom

pub stand_from : (at : ℕ) (atoms : List Atom) (p : Atom × ℕ) → In p (stand at atoms) → In p.0 atoms
unfolding stand
stand_from at [] p h = absurd h
stand_from at (atom ∷ atoms) p (inl e) = inl (ap (λ (q : Atom × ℕ). q.0) e)
stand_from at (atom ∷ atoms) p (inr h) = inr (stand_from (aligned atom.align at + atom.size) atoms p h)

home_left : (atoms : List AtomKey → List Atom) (xs ys : List PlacedSection) (p : Placed) → HasHome atoms xs p → HasHome atoms (xs ++ ys) p
home_left atoms xs ys p has = record { section = has.section; among = in_left xs ys has.section has.among; atom = has.atom; of_section = has.of_section; named = has.named }

home_right : (atoms : List AtomKey → List Atom) (xs ys : List PlacedSection) (p : Placed) → HasHome atoms ys p → HasHome atoms (xs ++ ys) p
home_right atoms xs ys p has = record { section = has.section; among = in_right xs ys has.section has.among; atom = has.atom; of_section = has.of_section; named = has.named }

parts_home : (atoms : List AtomKey → List Atom) (start file at : ℕ) (parts : List Part) (p : Placed) → In p (parts_places atoms at parts) → HasHome atoms (parts_sections atoms start file at parts) p
unfolding parts_places parts_sections placed_section
parts_home atoms start file at [] p h = absurd h
parts_home atoms start file at (part ∷ parts) p h = by (in_either (places stood) (parts_places atoms (part_end atoms at part) parts) p h) (parts_home atoms start file (part_end atoms at part) parts p)
  where
    stood : List (Atom × ℕ)
    stood = stand (part_from at part) (atoms part.section.atoms)

    by : In p (places stood) ⊎ In p (parts_places atoms (part_end atoms at part) parts) → (In p (parts_places atoms (part_end atoms at part) parts) → HasHome atoms (parts_sections atoms start file (part_end atoms at part) parts) p) → HasHome atoms (placed_section atoms start file at part ∷ parts_sections atoms start file (part_end atoms at part) parts) p
    by (inl here) rest =
        let found : (q : Atom × ℕ) × In q stood × (spot q.0 q.1 ≡ p) = from_map (λ (q : Atom × ℕ). spot q.0 q.1) stood p here in
        record { section = placed_section atoms start file at part; among = inl refl; atom = found.0.0; of_section = stand_from (part_from at part) (atoms part.section.atoms) found.0 found.1; named = ap (λ (q : Placed). q.atom) found.2 }
    by (inr there) rest =
        let later = rest there in
        record { section = later.section; among = inr later.among; atom = later.atom; of_section = later.of_section; named = later.named }

groups_home : (atoms : List AtomKey → List Atom) (at file lead : ℕ) (groups : List Group) (p : Placed) → In p (groups_places atoms at lead groups) → HasHome atoms (groups_sections atoms at file lead groups) p
unfolding groups_places groups_sections
groups_home atoms at file lead [] p h = absurd h
groups_home atoms at file lead (group ∷ groups) p h = by (in_either (parts_places atoms (at + lead) group.parts) (groups_places atoms next 0 groups) p h) (groups_home atoms next past 0 groups p)
  where
    next : ℕ
    next = page_up (group_end atoms at lead group)

    past : ℕ
    past = file + file_bytes atoms at lead group

    by : In p (parts_places atoms (at + lead) group.parts) ⊎ In p (groups_places atoms next 0 groups) → (In p (groups_places atoms next 0 groups) → HasHome atoms (groups_sections atoms next past 0 groups) p) → HasHome atoms (parts_sections atoms at file (at + lead) group.parts ++ groups_sections atoms next past 0 groups) p
    by (inl here) rest = home_left atoms (parts_sections atoms at file (at + lead) group.parts) (groups_sections atoms next past 0 groups) p (parts_home atoms at file (at + lead) group.parts p here)
    by (inr there) rest = home_right atoms (parts_sections atoms at file (at + lead) group.parts) (groups_sections atoms next past 0 groups) p (rest there)

image_home : (plan : Plan) (p : Placed) → In p (image_places plan) → HasHome plan.atoms (image_sections plan) p
unfolding image_places image_sections
image_home plan p h = groups_home plan.atoms plan.base 0 plan.lead plan.groups p h

spaced_from : (kept : List Atom) (areas : List IslandArea) (unit : ℕ) (keys : List AtomKey) (atom : Atom) → In atom (spaced kept areas unit keys) → In atom.key keys
unfolding spaced
spaced_from kept areas unit keys atom h =
    let found : (a : Atom) × In a (atoms_of kept keys) × (with_area areas unit a ≡ atom) = from_map (with_area areas unit) (atoms_of kept keys) atom h in
    subst (λ (k : AtomKey). In k keys) (ap (λ (a : Atom). a.key) found.2) (keys_listed kept keys found.0 found.1)

-- ---- a kept atom in its section

pub record IsSeated (m : ImageInputs) (layout : Layout) (key : AtomKey) : Type 0 where
  pub section : PlacedSection
  pub among : In section layout.sections
  pub listed : In key section.section.atoms
  pub address : ℕ
  pub stood : address_in layout.placed key ≡ Some address

pub seated : (m : ImageInputs) (layout : Layout) (kept : KeptAtom) (home : Home) → AreRising m → IsLaid m layout → Contains (kept_of m) kept → Some home ≡ home_of m.files kept.atom.key.file kept.atom.key.section → IsSeated m layout kept.atom.key
unfolding plan_with plan_of
seated m layout kept home rising laid keeps is =
    let atoms = map atom_of (kept_of m) in
    let sections = out_sections m.files atoms in
    let key = kept.atom.key in
    let atom : Contains atoms kept.atom = Contains_from_in atoms kept.atom (in_map atom_of (kept_of m) kept (in_from_Contains (kept_of m) kept keeps)) in
    let placed = placed_there atoms sections m.slots m.islands (sizes_of m.command m.libs (length m.info)) m.command kept.atom atom (kept_are_listed m.files atoms kept.atom home atom is) in
    let p : Placed = record { atom = key; address = placed.0 } in
    let has = image_home (plan_for m) p (in_from_Contains (image_places (plan_for m)) p placed.1) in
    let there : Contains layout.placed p = Contains-permutation (image_places (plan_for m)) layout.placed p laid.layout_of.places placed.1 in
    record {
      section = has.section;
      among = subst (λ (ss : List PlacedSection). In has.section ss) (sym laid.layout_of.sections) has.among;
      listed = subst (λ (k : AtomKey). In k has.section.section.atoms) has.named (spaced_from atoms m.islands.areas (area_unit sections) has.section.section.atoms has.atom has.of_section);
      address = placed.0;
      stood = sym (address_is layout.placed key (Some placed.0) (placed_once m layout rising laid) there);
    }

row_is : (placed : List Placed) (atoms : List KeptAtom) (section : PlacedSection) (key : AtomKey) (kept : KeptAtom) (address : ℕ) → kept_at atoms key ≡ Some kept → address_in placed key ≡ Some address → row_of placed atoms section key ≡ Some (row_at section kept address)
unfolding row_of
row_is placed atoms section key kept address known stood = rw (known, stood) refl

written : (m : ImageInputs) (layout : Layout) (kept : KeptAtom) (section : PlacedSection) (address : ℕ) → In section layout.sections → is_zerofill section.section.kind ≡ false → In kept.atom.key section.section.atoms → kept_at (kept_of m) kept.atom.key ≡ Some kept → address_in layout.placed kept.atom.key ≡ Some address → IsWritten m layout kept address
unfolding rows section_rows
written m layout kept section address among solid listed known stood =
    let scene = scene_of m layout in
    let row : PlacedWork = row_at section kept address in
    let passes : has_bytes section ≡ true = ap not solid in
    record {
      row = row;
      of_rows = Contains_from_in (rows_of m layout) row
          (in_flat (section_rows layout.placed (kept_of m)) (filter has_bytes layout.sections) section row (in_filter has_bytes layout.sections section among passes)
          (in_filter_map (row_of layout.placed (kept_of m) section) section.section.atoms kept.atom.key row listed (row_is layout.placed (kept_of m) section kept.atom.key kept address known stood)));
      atom = refl;
      file = refl;
      stands = refl;
    }

pub none_left_out : (m : ImageInputs) (layout : Layout) (kept : KeptAtom) (home : Home) → AreRising m → IsLaid m layout → Contains (kept_of m) kept → Some home ≡ home_of m.files kept.atom.key.file kept.atom.key.section → (address : ℕ) × (IsWritten m layout kept address ⊎ IsZerofill m layout kept address)
none_left_out m layout kept home rising laid keeps is =
    let seat = seated m layout kept home rising laid keeps is in
    let section : PlacedSection = seat.section in
    let known = kept_found m kept rising keeps in (
      seat.address,
      elim (cases_Bool (is_zerofill section.section.kind)) [
        | inl zeros ↦ inr (record {
          section = section;
          of_layout = Contains_from_in layout.sections section seat.among;
          zerofill = zeros;
          listed = Contains_from_in section.section.atoms kept.atom.key seat.listed;
          keeps = keeps;
          stands = seat.stood;
        })
        | inr solid ↦ inl (written m layout kept section seat.address seat.among solid seat.listed known seat.stood)
      ],
    )
