-- How far each atom moves where an image gets islands.
use Rattle.std.proofs.Common.{◌≡◌, ℕ, ◌+◌, ◌-◌, ◌*◌, ◌^◌, ◌<◌, ◌≤◌, ◌⊎◌, ◌++◌, Bool, true, false, not, ◌&&◌, List, [], ◌∷◌, map, length, Option, Some, None, Contains, codes, refl, sym, ap, subst, ◌∙◌, inl, inr, arith}
use Rattle.std.specs.List.{filter}
use Rattle.std.specs.List.Sorted.{IsStrictlySortedBy}
use Rattle.std.specs.Ordering.{on}
use Rattle.std.specs.declared.cmp.Ordering.TheVariants.{Less}
use Rattle.std.proofs.lemmas.Bool.{cases_Bool, cases_lt}
use Rattle.std.proofs.lemmas.List.{map-append}
use Rattle.std.proofs.lemmas.List.Elements.{recursion_from_All}
use Rattle.list_lemmas.proofs.Members.{In, in_from_Contains, Contains_from_in, all_in, all_from_in, in_map, from_filter, from_flat, in_either, in_left, in_right}
use Rattle.command_line.specs.declared.command.Command.{Command}
use Rattle.mo_types.specs.Keys.{compare_keys}
use Rattle.mo_types.specs.declared.atom.Atom.{Atom}
use Rattle.mo_types.specs.declared.key.AtomKey.{AtomKey}
use Rattle.mo_types.specs.declared.out_section.OutSection.{OutSection}
use Rattle.slot_plan.specs.declared.list.Slots.{Slots}
use Rattle.tlv_plan.specs.Template.{atoms_of, keys_of}
use Rattle.tlv_plan.proofs.Walk.{aligned_least}
use Rattle.sect_place.specs.Arrangement.{is_code, is_chosen, MadeBytes, groups_of, text_parts}
use Rattle.sect_list.specs.OutSections.{is_in}
use Rattle.sect_place.specs.Layout.{made_bytes, base_of, lead_of, plan_of, image_places}
use Rattle.sect_place.specs.Moved.{AreBehindCode, AreInOrder, IsMoved, areas_bytes, code_keys, counts, no_islands, pages_moved, text_end}
use Rattle.sect_place.specs.Places.{area_unit, groups_places, page_up, parts_end, parts_places, spaced}
use Rattle.sect_place.specs.declared.island.IslandArea.{IslandArea}
use Rattle.sect_place.specs.declared.island.IslandPlan.{IslandPlan}
use Rattle.sect_place.specs.declared.layout.Placed.{Placed}
use Rattle.sect_place.specs.declared.part.Choice.{Choice}
use Rattle.sect_place.specs.declared.part.Choice.TheVariants.{Code, BesideCode}
use Rattle.sect_place.specs.declared.part.Group.{Group}
use Rattle.sect_place.specs.declared.part.Part.{Part}
use Rattle.sect_place.specs.declared.size.PlaceSizes.{PlaceSizes}
use Rattle.sect_place.proofs.Areas.{CountsIn, areas_sum, before_code, before_other}
use Rattle.sect_place.proofs.Fitting.{islands_whole, later_all, later_fits, text_fits}
use Rattle.sect_list.proofs.Once.{Apart, apart_append}
use Rattle.sect_place.proofs.Positions.{apart_split, atoms_join, chosen_in_text, chosen_there, filter_keys_apart, finds, found_atom, from_pairs, group_keys, groups_keys, kept_apart, kept_keys, kept_listed, one_choice, part_keys, text_keys}
use Rattle.sect_place.proofs.Pushed.{IsPushed, IsWhole, groups_moved, part_atoms, parts_end_moved, parts_pushed, total, whole_sum}
use Rattle.sect_place.proofs.Sound.{groups_split, later_groups}
use Rattle.sect_place.proofs.Spread.{aligned_order}
use Rattle.std.proofs.Math.Nat.{mul-le-mul_right}

abbrev Rises : List IslandArea → Type 0
Rises areas = IsStrictlySortedBy (on (λ (area : IslandArea). area.last) compare_keys) areas

-- ---- the atoms of `__TEXT`

parts_atoms : (kept : List Atom) (parts : List Part) → part_atoms kept parts ≡ atoms_of kept (part_keys parts)
unfolding atoms_of
parts_atoms kept [] = refl
parts_atoms kept (part ∷ parts) = ap (λ (xs : List Atom). atoms_of kept part.section.atoms ++ xs) (parts_atoms kept parts) ∙ sym (atoms_join kept part.section.atoms (part_keys parts))

abbrev beside_keys : List OutSection → List AtomKey
beside_keys sections = keys_of (filter (is_chosen BesideCode) sections)

text_atom_keys : (kept : List Atom) (sections : List OutSection) (bytes : MadeBytes) → map (λ (atom : Atom). atom.key) (part_atoms kept (text_parts sections bytes)) ≡ kept_keys kept (code_keys sections) ++ kept_keys kept (beside_keys sections)
unfolding code_keys is_chosen
text_atom_keys kept sections bytes =
    ap (λ (atoms : List Atom). map (λ (atom : Atom). atom.key) atoms) (parts_atoms kept (text_parts sections bytes) ∙ (ap (atoms_of kept) (text_keys sections bytes) ∙ atoms_join kept (keys_of (filter (is_chosen Code) sections)) (beside_keys sections)))
    ∙ map-append (λ (atom : Atom). atom.key) (atoms_of kept (keys_of (filter (is_chosen Code) sections))) (atoms_of kept (beside_keys sections))

not_beside : {X : Type 0} → Code ≡ BesideCode → X
not_beside e = cc

text_apart : (kept : List Atom) (sections : List OutSection) → Apart (keys_of sections) → Apart (kept_keys kept (code_keys sections) ++ kept_keys kept (beside_keys sections))
unfolding code_keys is_chosen
text_apart kept sections once =
    apart_append (kept_keys kept (keys_of (filter is_code sections))) (kept_keys kept (beside_keys sections)) (kept_apart kept (keys_of (filter is_code sections)) (filter_keys_apart is_code sections once)) (kept_apart kept (beside_keys sections) (filter_keys_apart (is_chosen BesideCode) sections once))
    (λ key h k. not_beside (one_choice sections key Code BesideCode once (kept_listed kept (keys_of (filter is_code sections)) key h) (kept_listed kept (beside_keys sections) key k)))

kept_rising : (kept : List Atom) (keys : List AtomKey) → IsStrictlySortedBy compare_keys keys → IsStrictlySortedBy compare_keys (kept_keys kept keys)
unfolding IsStrictlySortedBy atoms_of
kept_rising kept [] rising = tt
kept_rising kept (key ∷ keys) rising = by (finds kept key) refl (kept_rising kept keys rising.1)
  where
    by : (o : Option Atom) → finds kept key ≡ o → IsStrictlySortedBy compare_keys (kept_keys kept keys) → IsStrictlySortedBy compare_keys (kept_keys kept (key ∷ keys))
    by None e rest = rw e rest
    by (Some found) e rest =
        let same : found.key ≡ key = (found_atom kept key found e).0 in
        rw e (all_from_in (λ (y : AtomKey). compare_keys found.key y ≡ Less) (kept_keys kept keys) (λ y h. subst (λ (k : AtomKey). compare_keys k y ≡ Less) (sym same) (all_in (λ (z : AtomKey). compare_keys key z ≡ Less) keys y rising.0 (kept_listed kept keys y h))), rest)

behind_code : (kept : List Atom) (sections : List OutSection) (areas : List IslandArea) → AreBehindCode kept sections areas → (area : IslandArea) → In area areas → In area.last (kept_keys kept (code_keys sections))
behind_code kept sections areas behind area h =
    in_from_Contains (kept_keys kept (code_keys sections)) area.last (all_in (λ (a : IslandArea). Contains (kept_keys kept (code_keys sections)) a.last) areas area (recursion_from_All (λ (a : IslandArea). Contains (kept_keys kept (code_keys sections)) a.last) areas behind) h)

in_text : (sections : List OutSection) (key : AtomKey) → In key (beside_keys sections) → Contains (keys_of (filter (is_in (codes "__TEXT")) sections)) key
in_text sections key h =
    let found : (section : OutSection) × In section (filter (is_chosen BesideCode) sections) × In key section.atoms = from_flat (λ (s : OutSection). s.atoms) (filter (is_chosen BesideCode) sections) key h in
    let passed = from_filter (is_chosen BesideCode) sections found.0 found.1 in
    Contains_from_in (keys_of (filter (is_in (codes "__TEXT")) sections)) key (chosen_there (is_in (codes "__TEXT")) sections found.0 key passed.0 (chosen_in_text found.0 (inr passed.1)) found.2)

not_listed : (sections : List OutSection) → Apart (keys_of sections) → (key : AtomKey) → In key (beside_keys sections) → Contains (code_keys sections) key → ⊥
unfolding code_keys is_chosen
not_listed sections once key h there = not_beside (one_choice sections key Code BesideCode once (in_from_Contains (keys_of (filter is_code sections)) key there) h)

-- ---- what is before an atom

first_keys : (first last : List Atom) (atom : Atom) (key : AtomKey) → atom.key ≡ key → map (λ (a : Atom). a.key) (first ++ atom ∷ last) ≡ map (λ (a : Atom). a.key) first ++ key ∷ map (λ (a : Atom). a.key) last
first_keys first last atom key is = map-append (λ (a : Atom). a.key) first (atom ∷ last) ∙ ap (λ (k : AtomKey). map (λ (a : Atom). a.key) first ++ k ∷ map (λ (a : Atom). a.key) last) is

-- ---- atoms of `__TEXT`

module _ (kept : List Atom) (sections : List OutSection) (areas : List IslandArea) (bytes : MadeBytes) (ordered : AreInOrder kept sections) (behind : AreBehindCode kept sections areas) (rising : Rises areas) where
  apart : Apart (keys_of sections)
  apart = from_pairs (keys_of sections) ordered.once

  pub all_bytes : total areas (area_unit sections) (part_atoms kept (text_parts sections bytes)) ≡ areas_bytes (area_unit sections) None areas
  all_bytes =
      let keys = text_atom_keys kept sections bytes in
      areas_sum areas (area_unit sections) None (part_atoms kept (text_parts sections bytes)) rising (subst (λ (ks : List AtomKey). Apart ks) (sym keys) (text_apart kept sections apart))
      (all_from_in (CountsIn None (map (λ (atom : Atom). atom.key) (part_atoms kept (text_parts sections bytes)))) areas
      (λ area h. inl (refl, subst (λ (ks : List AtomKey). In area.last ks) (sym keys) (in_left (kept_keys kept (code_keys sections)) (kept_keys kept (beside_keys sections)) area.last (behind_code kept sections areas behind area h)))))

  pub text_moved : (s end : ℕ) (before : List Placed) (p : Placed) → IsPushed areas (area_unit sections) 0 (part_atoms kept (text_parts sections bytes)) before p → (from : ℕ) × In (record { atom = p.atom; address = from }) before × IsMoved sections areas end p.atom from p.address
  text_moved s end before p is = by (in_either (kept_keys kept (code_keys sections)) (kept_keys kept (beside_keys sections)) p.atom here)
    where
      joined : kept_keys kept (code_keys sections) ++ kept_keys kept (beside_keys sections) ≡ map (λ (a : Atom). a.key) is.first ++ p.atom ∷ map (λ (a : Atom). a.key) is.last
      joined = sym (text_atom_keys kept sections bytes) ∙ (ap (λ (xs : List Atom). map (λ (a : Atom). a.key) xs) is.split ∙ first_keys is.first is.last is.atom p.atom is.key)

      here : In p.atom (kept_keys kept (code_keys sections) ++ kept_keys kept (beside_keys sections))
      here = subst (λ (ks : List AtomKey). In p.atom ks) (sym joined) (in_right (map (λ (a : Atom). a.key) is.first) (p.atom ∷ map (λ (a : Atom). a.key) is.last) p.atom (inl refl))

      text : Apart (kept_keys kept (code_keys sections) ++ kept_keys kept (beside_keys sections))
      text = text_apart kept sections apart

      first : Apart (map (λ (a : Atom). a.key) is.first)
      first = (apart_split (map (λ (a : Atom). a.key) is.first) (p.atom ∷ map (λ (a : Atom). a.key) is.last) (subst (λ (ks : List AtomKey). Apart ks) joined text)).0

      by : In p.atom (kept_keys kept (code_keys sections)) ⊎ In p.atom (kept_keys kept (beside_keys sections)) → (from : ℕ) × In (record { atom = p.atom; address = from }) before × IsMoved sections areas end p.atom from p.address
      by (inl code) =
          let sum : total areas (area_unit sections) is.first ≡ areas_bytes (area_unit sections) (Some p.atom) areas = areas_sum areas (area_unit sections) (Some p.atom) is.first rising first
          (all_from_in (CountsIn (Some p.atom) (map (λ (a : Atom). a.key) is.first)) areas (λ area h. before_code (kept_keys kept (code_keys sections)) (kept_keys kept (beside_keys sections)) (map (λ (a : Atom). a.key) is.first) (map (λ (a : Atom). a.key) is.last) p.atom area joined (kept_rising kept (code_keys sections) ordered.code) text code (behind_code kept sections areas behind area h))) in
          (is.from, is.there, inl (Contains_from_in (code_keys sections) p.atom (kept_listed kept (code_keys sections) p.atom code), omega (arith, is.moved, sum)))
      by (inr beside) =
          let not_code : In p.atom (kept_keys kept (code_keys sections)) → ⊥ = λ h. (apart_split (kept_keys kept (code_keys sections)) (kept_keys kept (beside_keys sections)) text).2 p.atom h beside in
          let sum : total areas (area_unit sections) is.first ≡ areas_bytes (area_unit sections) None areas = areas_sum areas (area_unit sections) None is.first rising first
          (all_from_in (CountsIn None (map (λ (a : Atom). a.key) is.first)) areas (λ area h. inl (refl, before_other (kept_keys kept (code_keys sections)) (kept_keys kept (beside_keys sections)) (map (λ (a : Atom). a.key) is.first) (map (λ (a : Atom). a.key) is.last) p.atom area.last joined not_code (behind_code kept sections areas behind area h)))) in
          (is.from, is.there, inr (inl (in_text sections p.atom (kept_listed kept (beside_keys sections) p.atom beside), not_listed sections apart p.atom (kept_listed kept (beside_keys sections) p.atom beside), omega (arith, is.moved, sum))))

-- ---- atoms behind `__TEXT`

and_not : (t c : Bool) → t ≡ true → c ≡ false → (t && not c) ≡ true
and_not t c e f = rw (e, f) refl

pub text_choice : (section : OutSection) → is_in (codes "__TEXT") section ≡ true → (is_chosen Code section ≡ true) ⊎ (is_chosen BesideCode section ≡ true)
unfolding is_chosen
text_choice section text = elim (cases_Bool (is_code section)) [ inl code ↦ inl code | inr other ↦ inr (and_not (is_in (codes "__TEXT") section) (is_code section) text other) ]

abbrev IsLate : List OutSection → AtomKey → Type 0
IsLate sections key = In key (keys_of (filter (is_in (codes "__TEXT")) sections)) → ⊥

late_key : (sections : List OutSection) → Apart (keys_of sections) → (choice : Choice) (section : OutSection) → In section sections → is_chosen choice section ≡ true → (Code ≡ choice → ⊥) → (BesideCode ≡ choice → ⊥) → (key : AtomKey) → In key section.atoms → IsLate sections key
late_key sections once choice section h is code beside key there listed =
    let found : (other : OutSection) × In other (filter (is_in (codes "__TEXT")) sections) × In key other.atoms = from_flat (λ (s : OutSection). s.atoms) (filter (is_in (codes "__TEXT")) sections) key listed in
    let passed = from_filter (is_in (codes "__TEXT")) sections found.0 found.1 in
    let here = chosen_there (is_chosen choice) sections section key h is there in
    by found.0 here (λ (c : Choice) is_c. chosen_there (is_chosen c) sections found.0 key passed.0 is_c found.2) (text_choice found.0 passed.1)
  where
    by : (other : OutSection) → In key (keys_of (filter (is_chosen choice) sections)) → ((c : Choice) → is_chosen c other ≡ true → In key (keys_of (filter (is_chosen c) sections))) → (is_chosen Code other ≡ true) ⊎ (is_chosen BesideCode other ≡ true) → ⊥
    by other here there (inl p) = code (one_choice sections key Code choice once (there Code p) here)
    by other here there (inr p) = beside (one_choice sections key BesideCode choice once (there BesideCode p) here)

later_late : (sections : List OutSection) (bytes : MadeBytes) → Apart (keys_of sections) → (key : AtomKey) → In key (group_keys (later_groups sections bytes)) → IsLate sections key
later_late sections bytes once key h =
    let all = later_all (λ (group : Group). (k : AtomKey) → In k (part_keys group.parts) → IsLate sections k) (λ (part : Part). (k : AtomKey) → In k part.section.atoms → IsLate sections k) sections bytes
    (λ name parts each k there.
    let found : (part : Part) × In part parts × In k part.section.atoms = from_flat (λ (p : Part). p.section.atoms) parts k there in
    all_in (λ (part : Part). (k : AtomKey) → In k part.section.atoms → IsLate sections k) parts found.0 each found.1 k found.2)
    (λ fixed k there. absurd there)
    (λ fixed k there. absurd there)
    (λ choice section h is code beside k there. late_key sections once choice section h is code beside k there) in
    let found : (group : Group) × In group (later_groups sections bytes) × In key (part_keys group.parts) = from_flat (λ (g : Group). part_keys g.parts) (later_groups sections bytes) key h in
    all_in (λ (group : Group). (k : AtomKey) → In k (part_keys group.parts) → IsLate sections k) (later_groups sections bytes) found.0 all found.1 key found.2

whole_less : (v a b : ℕ) → IsWhole v a → IsWhole v b → b ≤ a → IsWhole v (a - b)
whole_less v a b p q low = (p.0 - q.0, by (cases_lt p.0 q.0))
  where
    by : (p.0 < q.0) ⊎ (q.0 ≤ p.0) → a - b ≡ (p.0 - q.0) * 2 ^ v
    by (inl less) =
        let none : p.0 - q.0 ≡ 0 = omega (arith, less) in
        let far : p.0 * 2 ^ v ≤ q.0 * 2 ^ v = mul-le-mul_right (2 ^ v) (omega (arith, less)) in
        rw none (omega (arith, far, p.1, q.1, low))
    by (inr more) =
        let rest : p.0 ≡ (p.0 - q.0) + q.0 = omega (arith, more) in
        let parts : p.0 * 2 ^ v ≡ (p.0 - q.0) * 2 ^ v + q.0 * 2 ^ v = subst (λ (n : ℕ). n * 2 ^ v ≡ (p.0 - q.0) * 2 ^ v + q.0 * 2 ^ v) (sym rest) (omega arith) in
        omega (arith, parts, p.1, q.1)

pub pages_whole : (end bytes : ℕ) → IsWhole 14 (pages_moved end bytes)
pages_whole end bytes = whole_less 14 (page_up (end + bytes)) (page_up end) (aligned_least 14 (end + bytes)).whole (aligned_least 14 end).whole (aligned_order 14 end (end + bytes) (omega arith))

later_moved : (kept : List Atom) (sections : List OutSection) (areas : List IslandArea) (bytes : MadeBytes) → AreInOrder kept sections → AreBehindCode kept sections areas → Rises areas → (at : ℕ) (p : Placed) → In p (groups_places (spaced kept areas (area_unit sections)) (page_up (parts_end (spaced kept areas (area_unit sections)) at (text_parts sections bytes))) 0 (later_groups sections bytes)) → (from : ℕ) × In (record { atom = p.atom; address = from }) (groups_places (spaced kept [] (area_unit sections)) (page_up (parts_end (spaced kept [] (area_unit sections)) at (text_parts sections bytes))) 0 (later_groups sections bytes)) × IsMoved sections areas (parts_end (spaced kept [] (area_unit sections)) at (text_parts sections bytes)) p.atom from p.address
later_moved kept sections areas bytes ordered behind rising at p h =
    let unit = area_unit sections in
    let text = text_parts sections bytes in
    let f1 = spaced kept areas unit in
    let end = parts_end (spaced kept [] unit) at text in
    let all = areas_bytes unit None areas in
    let s = pages_moved end all in
    let here : at + 0 ≡ at = omega arith in
    let ends : parts_end f1 (at + 0) text ≡ end + (0 + total areas unit (part_atoms kept text)) = parts_end_moved kept areas unit unit at 0 text (text_fits kept sections areas bytes ordered) (0, omega arith) in
    let sum = all_bytes kept sections areas bytes ordered behind rising in
    let ended : parts_end f1 at text ≡ end + all = subst (λ (n : ℕ). parts_end f1 n text ≡ end + all) here (ends ∙ omega (arith, sum)) in
    let low : page_up end ≤ page_up (end + all) = aligned_order 14 end (end + all) (omega arith) in
    let next : page_up (parts_end f1 at text) ≡ page_up end + s = ap page_up ended ∙ omega (arith, low) in
    let listed : In p.atom (group_keys (later_groups sections bytes)) = kept_listed kept (group_keys (later_groups sections bytes)) p.atom (subst (λ (ks : List AtomKey). In p.atom ks) (groups_keys kept areas unit (page_up (parts_end f1 at text)) 0 (later_groups sections bytes)) (in_map (λ (q : Placed). q.atom) (groups_places f1 (page_up (parts_end f1 at text)) 0 (later_groups sections bytes)) p h)) in
    let late = later_late sections bytes (from_pairs (keys_of sections) ordered.once) p.atom listed in
    let is = groups_moved kept areas unit (page_up end) s (later_groups sections bytes) (later_fits kept sections areas bytes ordered behind rising) (pages_whole end all) p (subst (λ (n : ℕ). In p (groups_places f1 n 0 (later_groups sections bytes))) next h) in
    (is.from, is.there, inr (inr ((λ there. late (in_from_Contains (keys_of (filter (is_in (codes "__TEXT")) sections)) p.atom there)), is.moved)))

-- ---- all atoms

abbrev Came : List OutSection → List IslandArea → ℕ → List Placed → Placed → Type 0
Came sections areas end before p = (from : ℕ) × In (record { atom = p.atom; address = from }) before × IsMoved sections areas end p.atom from p.address

all_moved : (kept : List Atom) (sections : List OutSection) (areas : List IslandArea) (bytes : MadeBytes) → AreInOrder kept sections → AreBehindCode kept sections areas → Rises areas → (base lead : ℕ) (p : Placed) → In p (groups_places (spaced kept areas (area_unit sections)) base lead (groups_of sections bytes)) → Came sections areas (parts_end (spaced kept [] (area_unit sections)) (base + lead) (text_parts sections bytes)) (groups_places (spaced kept [] (area_unit sections)) base lead (groups_of sections bytes)) p
unfolding groups_places
all_moved kept sections areas bytes ordered behind rising base lead p h =
    let unit = area_unit sections in
    let text = text_parts sections bytes in
    let later = later_groups sections bytes in
    let f1 = spaced kept areas unit in
    let f0 = spaced kept [] unit in
    let at = base + lead in
    let end = parts_end f0 at text in
    let first : Group = record { name = codes "__TEXT"; parts = text } in
    let split : groups_of sections bytes ≡ first ∷ later = groups_split sections bytes in
    let here : at + 0 ≡ at = omega arith in
    let there : In p (parts_places f1 at text ++ groups_places f1 (page_up (parts_end f1 at text)) 0 later) = subst (λ (gs : List Group). In p (groups_places f1 base lead gs)) split h in
    subst (λ (gs : List Group). Came sections areas end (groups_places f0 base lead gs) p) (sym split)
    (by end (parts_places f0 at text) (groups_places f0 (page_up end) 0 later)
    (λ q. text_moved kept sections areas bytes ordered behind rising 0 end (parts_places f0 at text) p (parts_pushed kept areas unit unit at 0 text (text_fits kept sections areas bytes ordered) (0, omega arith) p (subst (λ (n : ℕ). In p (parts_places f1 n text)) (sym here) q)))
    (λ q. later_moved kept sections areas bytes ordered behind rising at p q)
    (in_either (parts_places f1 at text) (groups_places f1 (page_up (parts_end f1 at text)) 0 later) p there))
  where
    by : {A B : Type 0} (end : ℕ) (xs ys : List Placed) → (A → Came sections areas end xs p) → (B → Came sections areas end ys p) → A ⊎ B → Came sections areas end (xs ++ ys) p
    by end xs ys f g (inl a) = let came = f a in (came.0, in_left xs ys _ came.1, came.2)
    by end xs ys f g (inr b) = let came = g b in (came.0, in_right xs ys _ came.1, came.2)

pub moved_law : (kept : List Atom) (sections : List OutSection) (slots : Slots) (islands : IslandPlan) (sizes : PlaceSizes) (command : Command) → AreInOrder kept sections → AreBehindCode kept sections islands.areas → Rises islands.areas → (key : AtomKey) (after : ℕ) → Contains (image_places (plan_of kept sections slots islands sizes command)) (record { atom = key; address = after }) → (before : ℕ) × Contains (image_places (plan_of kept sections slots no_islands sizes command)) (record { atom = key; address = before }) × IsMoved sections islands.areas (text_end kept sections slots sizes command) key before after
unfolding image_places plan_of text_end
moved_law kept sections slots islands sizes command ordered behind rising key after h =
    let bytes = made_bytes slots sizes in
    let p : Placed = record { atom = key; address = after } in
    let places1 = groups_places (spaced kept islands.areas (area_unit sections)) (base_of command) (lead_of (groups_of sections bytes) sizes command) (groups_of sections bytes) in
    let places0 = groups_places (spaced kept [] (area_unit sections)) (base_of command) (lead_of (groups_of sections bytes) sizes command) (groups_of sections bytes) in
    let came = all_moved kept sections islands.areas bytes ordered behind rising (base_of command) (lead_of (groups_of sections bytes) sizes command) p (in_from_Contains places1 p h) in
    (came.0, Contains_from_in places0 (record { atom = key; address = came.0 }) came.1, came.2)

pub areas_whole : (unit : ℕ) (limit : Option AtomKey) (areas : List IslandArea) → IsWhole unit (areas_bytes unit limit areas)
unfolding areas_bytes
areas_whole unit limit [] = (0, omega arith)
areas_whole unit limit (area ∷ areas) = by (cases_Bool (counts limit area)) (areas_whole unit limit areas)
  where
    by : (counts limit area ≡ true) ⊎ (counts limit area ≡ false) → IsWhole unit (areas_bytes unit limit areas) → IsWhole unit (areas_bytes unit limit (area ∷ areas))
    by (inl here) rest = rw here (whole_sum unit _ _ (islands_whole unit (length area.targets)) rest)
    by (inr away) rest = rw away (rest.0, omega (arith, rest.1))

pub ruleset moved_laws = (moved_law, areas_whole, pages_whole)
