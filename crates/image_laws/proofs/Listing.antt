-- Each section with atoms of an image lists one.
use Rattle.std.proofs.Common.{◌≡◌, ℕ, ◌⊎◌, inl, inr, Bool, true, false, List, [], ◌∷◌, map, refl, ap, ◌∙◌, subst}
use Rattle.std.specs.List.{AllByRecursion}
use Rattle.std.proofs.lemmas.List.Elements.{All-from_recursion}
use Rattle.list_lemmas.proofs.Inserted.{from_inserted}
use Rattle.list_lemmas.proofs.Members.{In, all_from_in, from_map, in_filter, in_map}
use Rattle.mo_types.specs.declared.atom.Atom.{Atom}
use Rattle.mo_types.specs.declared.loaded.LoadedFile.{LoadedFile}
use Rattle.mo_types.specs.declared.out_section.OutSection.{OutSection}
use Rattle.mo_types.specs.Destination.{Destination}
use Rattle.sect_list.specs.OutSections.{Row, destinations, going_to, in_order, led, led_by, out_sections, rows, same_destination, section_with, sections_of}
use Rattle.sect_list.proofs.Gathering.{equal}
use Rattle.sect_list.proofs.Once.{order_members}
use Rattle.tlv_plan.specs.Template.{is_thread_local}
use Rattle.slot_place.specs.Places.{HaveAtoms}

abbrev Lists : OutSection → Type 0
Lists section = section.atoms ≡ [] → ⊥

none_in : {X : Type 0} (xs : List X) (x : X) → In x xs → xs ≡ [] → ⊥
none_in {X = X} xs x h e = subst (λ (ys : List X). In x ys) e h

-- a destination is that of some row
gathered : (all : List Row) (section : OutSection) → In section (sections_of all) → Lists section
unfolding sections_of destinations section_with going_to
gathered all section h =
    let found : (to : Destination) × In to (destinations all) × (section_with to (going_to all to) ≡ section) = from_map (λ (to : Destination). section_with to (going_to all to)) (destinations all) section h in
    by found.0 found.2 (from_inserted same_destination (λ a b. (equal a b).0) [] (map (λ (row : Row). row.home.to) all) found.0 found.1)
  where
    by : (to : Destination) → section_with to (going_to all to) ≡ section → In to [] ⊎ In to (map (λ (row : Row). row.home.to) all) → Lists section
    by to e (inl none) = absurd none
    by to e (inr there) = λ empty.
        let row : (row : Row) × In row all × (row.home.to ≡ to) = from_map (λ (row : Row). row.home.to) all to there in
        let goes : In row.0 (going_to all to) = in_filter (λ (other : Row). same_destination other.home.to to) all row.0 row.1 ((equal row.0.home.to to).1 row.2) in
        none_in (map (λ (r : Row). r.atom.key) (going_to all to)) row.0.atom.key (in_map (λ (r : Row). r.atom.key) (going_to all to) row.0 goes) (ap (λ (s : OutSection). s.atoms) e ∙ empty)

led_lists : (align : ℕ) (sections : List OutSection) → AllByRecursion Lists sections → AllByRecursion Lists (led_by align sections)
led_lists align [] all = tt
led_lists align (section ∷ sections) all = by (is_thread_local section) refl (led_lists align sections all.1)
  where
    by : (b : Bool) → is_thread_local section ≡ b → AllByRecursion Lists (led_by align sections) → AllByRecursion Lists (led_by align (section ∷ sections))
    by true e rest = rw e (all.0, all.1)
    by false e rest = rw e (all.0, rest)

pub have_atoms : (files : List LoadedFile) (kept : List Atom) → HaveAtoms (out_sections files kept)
unfolding out_sections led
have_atoms files kept =
    let all : List Row = rows files kept in
    let ordered : List OutSection = in_order (sections_of all) in
    All-from_recursion Lists (led_by _ ordered) (led_lists _ ordered (all_from_in Lists ordered (λ section h. gathered all section (order_members (sections_of all) section h))))
