-- The linker's own sections of an image: that it has them, where they stand, and their order.
use Rattle.std.proofs.Common.{◌≡◌, ◌≢◌, ℕ, ◌*◌, ◌⊎◌, ◌++◌, Bool, true, false, List, [], ◌∷◌, length, map, Some, refl, sym, ap, ◌∙◌, subst, inl, inr, arith, if◌then◌else◌}
use Rattle.std.specs.List.{filter, list_any}
use Rattle.std.proofs.lemmas.List.Elements.{All-from_recursion}
use Rattle.list_lemmas.proofs.Members.{In, all_from_in, find_some, from_map, in_either, in_filter, in_map}
use Rattle.indexmap.specs.IndexSet.{insert_all, insert_key}
use Rattle.mo_types.specs.Destination.{Destination}
use Rattle.mo_types.specs.declared.atom.Atom.{Atom}
use Rattle.mo_types.specs.declared.key.AtomKey.{AtomKey}
use Rattle.mo_types.specs.declared.loaded.LoadedFile.{LoadedFile}
use Rattle.mo_types.specs.declared.out_section.OutSection.{OutSection}
use Rattle.tlv_plan.specs.Template.{atoms_of, greatest_align, is_thread_local, thread_local}
use Rattle.sect_list.specs.OutSections.{Row, destinations, going_to, in_order, led, led_by, out_sections, rows, same_destination, section_with, sections_of}
use Rattle.sect_list.proofs.Gathering.{equal}
use Rattle.sect_list.proofs.Once.{order_members}
use Rattle.sect_place.specs.Arrangement.{section_of}
use Rattle.sect_place.specs.Layout.{base_of, image_sections, plan_of}
use Rattle.sect_place.specs.Places.{spaced}
use Rattle.sect_place.specs.declared.layout.Layout.{Layout}
use Rattle.sect_place.specs.declared.layout.PlacedSection.{PlacedSection}
use Rattle.sect_place.proofs.Meaning.{sections_aligned}
use Rattle.slot_plan.specs.declared.need.Way.{Way}
use Rattle.slot_place.specs.Places.{HasOwnSection, HaveAtoms, HaveRoom, goals_for, is_own, made_for, own_section, starts_of, unit_of}
use Rattle.slot_place.specs.Stubs.{AreReached}
use Rattle.slot_place.proofs.ReachLemmas.{AreWithin, are_reached, have_room, within}
use Rattle.slot_place.proofs.SectionLemmas.{has_own, own_found}
use Rattle.image_make.specs.Atoms.{atom_of}
use Rattle.image_make.specs.Made.{IsLaid, ImageInputs, kept_of, plan_for, plan_with, sizes_of}

-- ---- each section of atoms lists one

inserted : {X : Type 0} (eq : X → X → Bool) (keys xs : List X) (k : X) → In k (insert_all eq keys xs) → In k keys ⊎ In k xs
inserted eq keys [] k h = inl h
inserted {X = X} eq keys (x ∷ xs) k h = by (inserted eq (insert_key eq keys x) xs k h)
  where
    one : (b : Bool) → In k (if b then keys else keys ++ x ∷ []) → In k keys ⊎ In k (x ∷ xs)
    one true there = inl there
    one false there = elim (in_either keys (x ∷ []) k there) [ inl a ↦ inl a | inr (inl e) ↦ inr (inl e) | inr (inr none) ↦ absurd none ]

    by : In k (insert_key eq keys x) ⊎ In k xs → In k keys ⊎ In k (x ∷ xs)
    by (inl there) = one (list_any (eq x) keys) there
    by (inr later) = inr (inr later)

some_listed : (all : List Row) (to : Destination) → In to (destinations all) → (section_with to (going_to all to)).atoms ≡ [] → ⊥
unfolding destinations going_to section_with
some_listed all to h none = elim (inserted same_destination [] (map (λ (row : Row). row.home.to) all) to h) [
  | inl never ↦ absurd never
  | inr among ↦
      let from = from_map (λ (row : Row). row.home.to) all to among in
      let passes : same_destination from.0.home.to to ≡ true = (equal from.0.home.to to).1 from.2 in
      let chosen_row = in_filter (λ (row : Row). same_destination row.home.to to) all from.0 from.1 passes in
      let key = in_map (λ (row : Row). row.atom.key) (filter (λ (row : Row). same_destination row.home.to to) all) from.0 chosen_row in
      absurd (subst (λ (keys : List AtomKey). In from.0.atom.key keys) none key)
]

led_listed : (align : ℕ) (ss : List OutSection) (s : OutSection) → In s (led_by align ss) → (z : OutSection) × In z ss × (z.atoms ≡ s.atoms)
led_listed align [] s h = absurd h
led_listed align (first ∷ ss) s h = by (led_listed align ss s) (is_thread_local first) h
  where
    by : (In s (led_by align ss) → (z : OutSection) × In z ss × (z.atoms ≡ s.atoms)) → (b : Bool) → In s (if b then record first { align = align } ∷ ss else first ∷ led_by align ss) → (z : OutSection) × In z (first ∷ ss) × (z.atoms ≡ s.atoms)
    by rest true (inl e) = (first, inl refl, ap (λ (z : OutSection). z.atoms) e)
    by rest true (inr k) = (s, inr k, refl)
    by rest false (inl e) = (first, inl refl, ap (λ (z : OutSection). z.atoms) e)
    by rest false (inr k) = let m = rest k in (m.0, inr m.1, m.2)

pub have_atoms : (files : List LoadedFile) (atoms : List Atom) → HaveAtoms (out_sections files atoms)
unfolding out_sections led sections_of
have_atoms files atoms = All-from_recursion Lists (out_sections files atoms) (all_from_in Lists (out_sections files atoms) each)
  where
    Lists : OutSection → Type 0
    Lists section = section.atoms ≢ []

    each : (section : OutSection) → In section (out_sections files atoms) → Lists section
    each section h none =
        let ordered = in_order (sections_of (rows files atoms)) in
        let same = led_listed (greatest_align (thread_local ordered)) ordered section h in
        let of = from_map (λ (to : Destination). section_with to (going_to (rows files atoms) to)) (destinations (rows files atoms)) same.0 (order_members (sections_of (rows files atoms)) same.0 same.1) in
        some_listed (rows files atoms) of.0 of.1 (ap (λ (s : OutSection). s.atoms) of.2 ∙ same.2 ∙ none)

-- ---- the image has its own sections, with room

pub laid_own : (m : ImageInputs) (layout : Layout) (way : Way) → IsLaid m layout → HasOwnSection layout.sections m.slots way
unfolding plan_with plan_of image_sections spaced atoms_of
laid_own m layout way laid =
    subst (λ (there : List PlacedSection). HasOwnSection there m.slots way) (sym laid.layout_of.sections)
    (has_own _ _ _ _ (out_sections m.files (map atom_of (kept_of m))) m.slots (sizes_of m.command m.libs (length m.info)) way (record { none = refl; have_atoms = have_atoms m.files (map atom_of (kept_of m)) }))

pub laid_within : (m : ImageInputs) (layout : Layout) → IsLaid m layout → AreWithin (base_of m.command) m.slots layout.sections
unfolding plan_with plan_of image_sections spaced atoms_of
laid_within m layout laid =
    let plan = plan_for m in
    let small = laid.small in
    subst (λ (there : List PlacedSection). AreWithin (base_of m.command) m.slots there) (sym laid.layout_of.sections)
    (within plan.atoms (base_of m.command) 0 plan.lead (out_sections m.files (map atom_of (kept_of m))) m.slots (sizes_of m.command m.libs (length m.info)) (record { none = refl; have_atoms = have_atoms m.files (map atom_of (kept_of m)) }) (omega (arith, small)) (sections_aligned plan))

pub laid_room : (m : ImageInputs) (layout : Layout) → IsLaid m layout → HaveRoom (starts_of layout.sections) m.slots
laid_room m layout laid = have_room m.command m.slots layout.sections (laid_within m layout laid)

pub laid_reach : (m : ImageInputs) (layout : Layout) → IsLaid m layout → AreReached (base_of m.command) (starts_of layout.sections) m.slots
laid_reach m layout laid = are_reached m.command m.slots layout.sections (laid_within m layout laid)

-- what is known of one
pub laid_is : (m : ImageInputs) (layout : Layout) (way : Way) (p : PlacedSection) → IsLaid m layout → own_section layout.sections way ≡ Some p → (p.section ≡ section_of (made_for way)) × (p.size ≡ unit_of way * length (goals_for m.slots way)) × In p layout.sections
unfolding plan_with plan_of image_sections spaced atoms_of own_section
laid_is m layout way p laid e =
    let plan = plan_for m in
    let there : own_section (image_sections plan) way ≡ Some p = ap (λ (ss : List PlacedSection). own_section ss way) (sym laid.layout_of.sections) ∙ e in
    let own = own_found plan.atoms (base_of m.command) 0 plan.lead (out_sections m.files (map atom_of (kept_of m))) m.slots (sizes_of m.command m.libs (length m.info)) way p (record { none = refl; have_atoms = have_atoms m.files (map atom_of (kept_of m)) }) there in
    (own.is, own.sized, (find_some (is_own way) layout.sections p e).0)
