-- Each atom stands in the section that lists it, and a place in the midst of a section is in no other one.
use Rattle.std.proofs.Common.{◌≡◌, ℕ, ◌+◌, ◌<◌, ◌≤◌, ◌⊎◌, ◌++◌, List, [], ◌∷◌, get_or, map, Contains, codes, refl, sym, ap, subst, ◌∙◌, inl, inr, arith}
use Rattle.std.specs.List.{AllPairs, filter}
use Rattle.std.proofs.lemmas.Bool.{cases_eq, cases_lt}
use Rattle.std.proofs.lemmas.List.{get_or_default}
use Rattle.std.proofs.lemmas.List.Sorted.{Contains-permutation, IsPermutation-sym}
use Rattle.list_lemmas.proofs.Members.{In, Contains_from_in, from_filter, from_flat, from_map, in_either, in_flat, in_from_Contains, in_left, in_map, in_right}
use Rattle.command_line.specs.declared.command.Command.{Command}
use Rattle.mo_types.specs.declared.atom.Atom.{Atom}
use Rattle.mo_types.specs.declared.key.AtomKey.{AtomKey}
use Rattle.mo_types.specs.declared.out_section.OutSection.{OutSection}
use Rattle.slot_plan.specs.declared.list.Slots.{Slots}
use Rattle.tlv_plan.specs.Template.{aligned, atoms_of, end_of, keys_of, stand}
use Rattle.tlv_plan.proofs.Walk.{after_end, aligned_least}
use Rattle.sect_list.proofs.Once.{Apart}
use Rattle.sect_list.specs.OutSections.{is_in}
use Rattle.sect_place.specs.Arrangement.{groups_of, is_code}
use Rattle.sect_place.specs.Layout.{IsLayoutOf, base_of, image_places, image_sections, lead_of, made_bytes, plan_of}
use Rattle.sect_place.specs.Moved.{code_keys, no_islands}
use Rattle.sect_place.specs.Places.{area_unit, file_bytes, group_end, groups_places, groups_sections, page_up, part_end, part_from, parts_places, parts_sections, placed_section, places, spaced, with_area}
use Rattle.sect_place.specs.declared.island.IslandArea.{IslandArea}
use Rattle.sect_place.specs.declared.layout.Layout.{Layout}
use Rattle.sect_place.specs.declared.layout.Placed.{Placed}
use Rattle.sect_place.specs.declared.layout.PlacedSection.{PlacedSection}
use Rattle.sect_place.specs.declared.part.Group.{Group}
use Rattle.sect_place.specs.declared.part.Part.{Part}
use Rattle.sect_place.specs.declared.size.PlaceSizes.{PlaceSizes}
use Rattle.sect_place.specs.inner.Around.{IsAround}
use Rattle.sect_place.proofs.Meaning.{sections_apart}
use Rattle.sect_place.proofs.Positions.{agree, apart_split, chosen_there, keys_listed}

-- ---- atoms one behind the other

-- a place from one number to another
abbrev pub Within : ℕ → ℕ → Atom × ℕ → Type 0
Within at end p = (at ≤ p.1) × (p.1 + p.0.size ≤ end)

pub stand_within : (at : ℕ) (atoms : List Atom) (p : Atom × ℕ) → In p (stand at atoms) → Within at (end_of at atoms) p
unfolding stand end_of
stand_within at [] p h = absurd h
stand_within at (atom ∷ atoms) p (inl e) =
    let rest = after_end (aligned atom.align at + atom.size) atoms in
    subst (λ (q : Atom × ℕ). Within at (end_of (aligned atom.align at + atom.size) atoms) q) e ((aligned_least atom.align at).enough, rest)
stand_within at (atom ∷ atoms) p (inr h) =
    let rest = stand_within (aligned atom.align at + atom.size) atoms p h in
    (omega (arith, rest.0, (aligned_least atom.align at).enough), rest.1)

pub stand_atoms : (at : ℕ) (atoms : List Atom) → map (λ (p : Atom × ℕ). p.0) (stand at atoms) ≡ atoms
unfolding stand
stand_atoms at [] = refl
stand_atoms at (atom ∷ atoms) = ap (λ (xs : List Atom). atom ∷ xs) (stand_atoms (aligned atom.align at + atom.size) atoms)

-- ---- the section of an atom

-- a section of some that lists an atom, from its start to its end
pub record IsHeld (placed : List PlacedSection) (q : Placed) : Type 0 where
  pub host : PlacedSection
  pub there : In host placed
  pub lists : In q.atom host.section.atoms
  pub from : host.address ≤ q.address
  pub to : q.address ≤ host.address + host.size

held_left : (xs ys : List PlacedSection) (q : Placed) → IsHeld xs q → IsHeld (xs ++ ys) q
held_left xs ys q is = record { host = is.host; there = in_left xs ys is.host is.there; lists = is.lists; from = is.from; to = is.to }

held_right : (xs ys : List PlacedSection) (q : Placed) → IsHeld ys q → IsHeld (xs ++ ys) q
held_right xs ys q is = record { host = is.host; there = in_right xs ys is.host is.there; lists = is.lists; from = is.from; to = is.to }

one_held : (kept : List Atom) (areas : List IslandArea) (unit start file at : ℕ) (part : Part) (q : Placed) → In q (places (stand (part_from at part) (spaced kept areas unit part.section.atoms))) → IsHeld (placed_section (spaced kept areas unit) start file at part ∷ []) q
unfolding spaced placed_section part_end
one_held kept areas unit start file at part q h =
    let atoms = map (with_area areas unit) (atoms_of kept part.section.atoms) in
    let own : (p : Atom × ℕ) × In p (stand (part_from at part) atoms) × ((let r : Placed = record { atom = p.0.key; address = p.1 } in r) ≡ q) = from_map (λ (p : Atom × ℕ). let r : Placed = record { atom = p.0.key; address = p.1 } in r) (stand (part_from at part) atoms) q h in
    let within = stand_within (part_from at part) atoms own.0 own.1 in
    let wide : In own.0.0 atoms = subst (λ (xs : List Atom). In own.0.0 xs) (stand_atoms (part_from at part) atoms) (in_map (λ (p : Atom × ℕ). p.0) (stand (part_from at part) atoms) own.0 own.1) in
    let atom : (a : Atom) × In a (atoms_of kept part.section.atoms) × (with_area areas unit a ≡ own.0.0) = from_map (with_area areas unit) (atoms_of kept part.section.atoms) own.0.0 wide in
    let key : atom.0.key ≡ q.atom = ap (λ (a : Atom). a.key) atom.2 ∙ ap (λ (r : Placed). r.atom) own.2 in
    let address : own.0.1 ≡ q.address = ap (λ (r : Placed). r.address) own.2 in
    record {
      host = placed_section (spaced kept areas unit) start file at part;
      there = inl refl;
      lists = subst (λ (k : AtomKey). In k part.section.atoms) key (keys_listed kept part.section.atoms atom.0 atom.1);
      from = omega (arith, within.0, address);
      to = omega (arith, within.0, within.1, address);
    }

parts_held : (kept : List Atom) (areas : List IslandArea) (unit start file at : ℕ) (parts : List Part) (q : Placed) → In q (parts_places (spaced kept areas unit) at parts) → IsHeld (parts_sections (spaced kept areas unit) start file at parts) q
unfolding parts_places parts_sections
parts_held kept areas unit start file at [] q h = absurd h
parts_held kept areas unit start file at (part ∷ parts) q h =
    by (parts_held kept areas unit start file (part_end (spaced kept areas unit) at part) parts q)
    (in_either (places (stand (part_from at part) (spaced kept areas unit part.section.atoms))) (parts_places (spaced kept areas unit) (part_end (spaced kept areas unit) at part) parts) q h)
  where
    later : List PlacedSection
    later = parts_sections (spaced kept areas unit) start file (part_end (spaced kept areas unit) at part) parts

    by : (In q (parts_places (spaced kept areas unit) (part_end (spaced kept areas unit) at part) parts) → IsHeld (parts_sections (spaced kept areas unit) start file (part_end (spaced kept areas unit) at part) parts) q) → In q (places (stand (part_from at part) (spaced kept areas unit part.section.atoms))) ⊎ In q (parts_places (spaced kept areas unit) (part_end (spaced kept areas unit) at part) parts) → IsHeld (placed_section (spaced kept areas unit) start file at part ∷ parts_sections (spaced kept areas unit) start file (part_end (spaced kept areas unit) at part) parts) q
    by rest (inl here) = held_left (placed_section (spaced kept areas unit) start file at part ∷ []) later q (one_held kept areas unit start file at part q here)
    by rest (inr next) = held_right (placed_section (spaced kept areas unit) start file at part ∷ []) later q (rest next)

pub groups_held : (kept : List Atom) (areas : List IslandArea) (unit at file lead : ℕ) (groups : List Group) (q : Placed) → In q (groups_places (spaced kept areas unit) at lead groups) → IsHeld (groups_sections (spaced kept areas unit) at file lead groups) q
unfolding groups_places groups_sections
groups_held kept areas unit at file lead [] q h = absurd h
groups_held kept areas unit at file lead (group ∷ groups) q h =
    by (groups_held kept areas unit (page_up (group_end (spaced kept areas unit) at lead group)) (file + file_bytes (spaced kept areas unit) at lead group) 0 groups q)
    (in_either (parts_places (spaced kept areas unit) (at + lead) group.parts) (groups_places (spaced kept areas unit) (page_up (group_end (spaced kept areas unit) at lead group)) 0 groups) q h)
  where
    here_sections : List PlacedSection
    here_sections = parts_sections (spaced kept areas unit) at file (at + lead) group.parts

    later : List PlacedSection
    later = groups_sections (spaced kept areas unit) (page_up (group_end (spaced kept areas unit) at lead group)) (file + file_bytes (spaced kept areas unit) at lead group) 0 groups

    by : (In q (groups_places (spaced kept areas unit) (page_up (group_end (spaced kept areas unit) at lead group)) 0 groups) → IsHeld later q) → In q (parts_places (spaced kept areas unit) (at + lead) group.parts) ⊎ In q (groups_places (spaced kept areas unit) (page_up (group_end (spaced kept areas unit) at lead group)) 0 groups) → IsHeld (here_sections ++ later) q
    by rest (inl here) = held_left here_sections later q (parts_held kept areas unit at file (at + lead) group.parts q here)
    by rest (inr next) = held_right here_sections later q (rest next)

-- ---- one section

pub same_section : (placed : List PlacedSection) (a b : PlacedSection) (place : ℕ) → AllPairs (λ (p : PlacedSection) (q : PlacedSection). p.address + p.size ≤ q.address) placed → In a placed → a.address ≤ place → place ≤ a.address + a.size → Contains placed b → b.address < place → place < b.address + b.size → a ≡ b
same_section placed a b place apart h low high at_b after before = by (cases_lt i j)
  where
    at_a : Contains placed a
    at_a = Contains_from_in placed a h

    i : ℕ
    i = at_a.0

    j : ℕ
    j = at_b.0

    there : get_or placed i b ≡ a
    there = get_or_default placed i b a at_a.1 ∙ at_a.2

    first : i < j → a.address + a.size ≤ b.address
    first less =
        subst (λ (p : PlacedSection). p.address + p.size ≤ b.address) there
        (subst (λ (q : PlacedSection). (get_or placed i b).address + (get_or placed i b).size ≤ q.address) at_b.2 (apart i j b less at_b.1))

    second : j < i → b.address + b.size ≤ a.address
    second less =
        subst (λ (q : PlacedSection). b.address + b.size ≤ q.address) there
        (subst (λ (p : PlacedSection). p.address + p.size ≤ (get_or placed i b).address) at_b.2 (apart j i b less at_a.1))

    by : (i < j) ⊎ (j ≤ i) → a ≡ b
    by (inl less) = let clash = first less in absurd (omega (arith, clash, after, high))
    by (inr up) = elim (cases_eq i j) [
      | inl e ↦ sym there ∙ (ap (λ (n : ℕ). get_or placed n b) e ∙ at_b.2)
      | inr differ ↦ let clash = second (omega (arith, up, differ)) in absurd (omega (arith, clash, before, low))
    ]

pub stands_amid : (kept : List Atom) (sections : List OutSection) (slots : Slots) (sizes : PlaceSizes) (command : Command) (layout : Layout) → IsLayoutOf command (plan_of kept sections slots no_islands sizes command) layout → (key : AtomKey) (place : ℕ) (p : PlacedSection) → Contains layout.placed (record { atom = key; address = place }) → IsAround layout.sections place p → In p layout.sections × In key p.section.atoms
unfolding image_places image_sections plan_of
stands_amid kept sections slots sizes command layout laid key place p h around =
    let q : Placed = record { atom = key; address = place } in
    let all = image_places (plan_of kept sections slots no_islands sizes command) in
    let here : In q all = in_from_Contains all q (Contains-permutation layout.placed all q (IsPermutation-sym all layout.placed laid.places) h) in
    let held : IsHeld layout.sections q =
    subst (λ (placed : List PlacedSection). IsHeld placed q) (sym laid.sections)
    (groups_held kept [] (area_unit sections) (base_of command) 0 (lead_of (groups_of sections (made_bytes slots sizes)) sizes command) (groups_of sections (made_bytes slots sizes)) q here) in
    let apart : AllPairs (λ (a : PlacedSection) (b : PlacedSection). a.address + a.size ≤ b.address) layout.sections = subst (λ (placed : List PlacedSection). AllPairs (λ (a : PlacedSection) (b : PlacedSection). a.address + a.size ≤ b.address) placed) (sym laid.sections) (sections_apart (plan_of kept sections slots no_islands sizes command)) in
    let same : held.host ≡ p = same_section layout.sections held.host p place apart held.there held.from held.to around.0 around.1 around.2 in
    subst (λ (s : PlacedSection). In s layout.sections × In key s.section.atoms) same (held.there, held.lists)

-- what `__text` lists, `__TEXT` lists
pub code_in_text : (sections : List OutSection) (key : AtomKey) → Contains (code_keys sections) key → Contains (keys_of (filter (is_in (codes "__TEXT")) sections)) key
unfolding code_keys
code_in_text sections key h =
    let found : (section : OutSection) × In section (filter is_code sections) × In key section.atoms = from_flat (λ (s : OutSection). s.atoms) (filter is_code sections) key (in_from_Contains (keys_of (filter is_code sections)) key h) in
    let passed = from_filter is_code sections found.0 found.1 in
    Contains_from_in (keys_of (filter (is_in (codes "__TEXT")) sections)) key (chosen_there (is_in (codes "__TEXT")) sections found.0 key passed.0 ((agree found.0).code passed.1) found.2)

pub one_section : (sections : List OutSection) (a b : OutSection) (key : AtomKey) → Apart (keys_of sections) → In a sections → In b sections → In key a.atoms → In key b.atoms → a ≡ b
one_section [] a b key apart h k p q = absurd h
one_section (s ∷ sections) a b key apart h k p q = by (one_section sections a b key split.1) h k
  where
    split : Apart s.atoms × Apart (keys_of sections) × ((x : AtomKey) → In x s.atoms → In x (keys_of sections) → ⊥)
    split = apart_split s.atoms (keys_of sections) apart

    clash : (c : OutSection) → In key s.atoms → In c sections → In key c.atoms → ⊥
    clash c here there listed = split.2 key here (in_flat (λ (x : OutSection). x.atoms) sections c key there listed)

    by : (In a sections → In b sections → In key a.atoms → In key b.atoms → a ≡ b) → (s ≡ a) ⊎ In a sections → (s ≡ b) ⊎ In b sections → a ≡ b
    by rest (inl e) (inl f) = sym e ∙ f
    by rest (inl e) (inr there) = absurd (clash b (subst (λ (x : OutSection). In key x.atoms) (sym e) p) there q)
    by rest (inr here) (inl f) = absurd (clash a (subst (λ (x : OutSection). In key x.atoms) (sym f) q) here p)
    by rest (inr here) (inr there) = rest here there p q
