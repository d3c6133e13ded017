-- The address that a look-up answers is that of the layout with islands.
use Rattle.std.proofs.Common.{◌≡◌, ℕ, ◌+◌, ◌≤◌, ◌⊎◌, Bool, true, false, List, [], ◌∷◌, map, Option, Some, None, All, Contains, codes, refl, sym, ap, subst, ◌∙◌, inl, inr, arith}
use Rattle.std.specs.List.{filter, AllByRecursion}
use Rattle.std.specs.List.Sorted.{IsStrictlySortedBy}
use Rattle.std.specs.Ordering.{on}
use Rattle.std.proofs.lemmas.Bool.{cases_Bool, false≢true}
use Rattle.std.proofs.lemmas.List.Elements.{All-from_recursion, recursion_from_All}
use Rattle.std.proofs.lemmas.List.Sorted.{Contains-permutation, IsPermutation-sym}
use Rattle.list_lemmas.proofs.Members.{In, Contains_from_in, all_in, from_filter, from_map, in_from_Contains, in_map, from_flat, in_left}
use Rattle.command_line.specs.declared.command.Command.{Command}
use Rattle.mo_types.specs.Keys.{compare_keys}
use Rattle.mo_types.specs.declared.atom.Atom.{Atom}
use Rattle.mo_types.specs.declared.key.AtomKey.{AtomKey}
use Rattle.mo_types.specs.declared.out_section.OutSection.{OutSection}
use Rattle.slot_plan.specs.declared.list.Slots.{Slots}
use Rattle.tlv_plan.specs.Template.{atoms_of, keys_of}
use Rattle.sect_place.specs.Arrangement.{MadeBytes, groups_of, is_chosen, is_code, text_parts}
use Rattle.sect_list.specs.OutSections.{is_in}
use Rattle.sect_place.specs.Layout.{IsLayoutOf, base_of, image_places, image_sections, lead_of, made_bytes, plan_of}
use Rattle.sect_place.specs.Moved.{AreBehindCode, AreInOrder, IsMoved, areas_bytes, code_keys, no_islands, pages_moved, text_end}
use Rattle.sect_place.specs.Places.{area_unit, spaced}
use Rattle.sect_place.specs.Shifts.{IsAddressIn, IsShift, IsShiftBy, ShiftTable, in_region, sections_in, shifts_of, step_before, steps_from, text_end_from, unit_in}
use Rattle.sect_place.specs.declared.island.IslandArea.{IslandArea}
use Rattle.sect_place.specs.declared.island.IslandPlan.{IslandPlan}
use Rattle.sect_place.specs.declared.layout.Layout.{Layout}
use Rattle.sect_place.specs.declared.layout.Placed.{Placed}
use Rattle.sect_place.specs.declared.layout.PlacedSection.{PlacedSection}
use Rattle.sect_place.specs.declared.shift.Region.TheVariants.{Code, Text}
use Rattle.sect_place.specs.declared.shift.Step.{Step}
use Rattle.sect_place.specs.declared.size.PlaceSizes.{PlaceSizes}
use Rattle.sect_place.specs.inner.Around.{IsAround, IsShiftAt, IsShiftIn, shift_in}
use Rattle.sect_place.specs.inner.Room.{capped}
use Rattle.sect_place.proofs.Around.{code_in_text, one_section, stands_amid}
use Rattle.sect_place.proofs.Fitting.{low_section, unit_below}
use Rattle.sect_place.proofs.Moving.{moved_law}
use Rattle.sect_list.proofs.Once.{one_by_map}
use Rattle.sect_place.proofs.Planned.{AreThose, all_there, listed_back, listed_there, same_unit, text_ends, those}
use Rattle.sect_place.proofs.Positions.{agree, chosen_there, from_pairs, image_apart, image_keys, kept_listed, part_keys, text_keys}
use Rattle.sect_place.proofs.Shifting.{steps_come_to, steps_rise}

-- what a look-up rests on
pub record Stands (kept : List Atom) (sections : List OutSection) (slots : Slots) (islands : IslandPlan) (sizes : PlaceSizes) (command : Command) (layout : Layout) (table : ShiftTable) : Type 0 where
  pub ordered : AreInOrder kept sections
  pub behind : AreBehindCode kept sections islands.areas
  pub rising : IsStrictlySortedBy (on (λ (area : IslandArea). area.last) compare_keys) islands.areas
  pub laid : IsLayoutOf command (plan_of kept sections slots no_islands sizes command) layout
  pub made : table ≡ shifts_of layout.sections islands.areas

no_key : (sections : List OutSection) (bytes : MadeBytes) (key : AtomKey) → text_parts sections bytes ≡ [] → In key (code_keys sections) → ⊥
unfolding code_keys is_chosen
no_key sections bytes key none h =
    subst (λ (keys : List AtomKey). In key keys) (sym (text_keys sections bytes) ∙ ap part_keys none) (in_left (keys_of (filter is_code sections)) _ key h)

no_areas : (kept : List Atom) (sections : List OutSection) (bytes : MadeBytes) (unit : ℕ) (areas : List IslandArea) → text_parts sections bytes ≡ [] → AreBehindCode kept sections areas → areas_bytes unit None areas ≡ 0
unfolding areas_bytes
no_areas kept sections bytes unit [] none behind = refl
no_areas kept sections bytes unit (area ∷ areas) none behind =
    absurd (no_key sections bytes area.last none (kept_listed kept (code_keys sections) area.last (in_from_Contains (map (λ (atom : Atom). atom.key) (atoms_of kept (code_keys sections))) area.last (behind 0 area (omega arith)))))

still : (end bytes : ℕ) → bytes ≡ 0 → pages_moved end bytes ≡ 0
still end bytes none =
    let same : end + bytes ≡ end = omega (arith, none) in
    rw same (omega arith)

module _ (kept : List Atom) (sections : List OutSection) (slots : Slots) (islands : IslandPlan) (sizes : PlaceSizes) (command : Command) (layout : Layout) (table : ShiftTable) (is : Stands kept sections slots islands sizes command layout table) where
  there : List OutSection
  there = sections_in layout.sections

  are : AreThose sections (sections_in layout.sections)
  unfolding image_sections plan_of
  are =
      subst (λ (placed : List PlacedSection). AreThose sections (sections_in placed)) (sym is.laid.sections)
      (those (spaced kept [] (area_unit sections)) (base_of command) 0 (lead_of (groups_of sections (made_bytes slots sizes)) sizes command) sections (made_bytes slots sizes))

  unit_same : unit_in layout.sections ≡ area_unit sections
  unit_same =
      let same = same_unit sections (sections_in layout.sections) are in
      let low = unit_below sections 14 (omega arith) (λ section h text. low_section kept sections is.ordered section h) in
      omega (arith, same, low)

  all_same : table.all ≡ areas_bytes (area_unit sections) None islands.areas
  unfolding shifts_of
  all_same = ap (λ (t : ShiftTable). t.all) is.made ∙ ap (λ (unit : ℕ). areas_bytes unit None islands.areas) unit_same

  steps_same : table.steps ≡ steps_from (area_unit sections) 0 islands.areas
  unfolding shifts_of
  steps_same = ap (λ (t : ShiftTable). t.steps) is.made ∙ ap (λ (unit : ℕ). steps_from unit 0 islands.areas) unit_same

  pages_same : table.pages ≡ pages_moved (text_end kept sections slots sizes command) (areas_bytes (area_unit sections) None islands.areas)
  unfolding shifts_of image_sections plan_of text_end
  pages_same =
      ap (λ (t : ShiftTable). t.pages) is.made
      ∙ (ap (λ (unit : ℕ). pages_moved (text_end_from 0 layout.sections) (areas_bytes unit None islands.areas)) unit_same
      ∙ by (text_ends (spaced kept [] (area_unit sections)) (base_of command) 0 (lead_of (groups_of sections (made_bytes slots sizes)) sizes command) sections (made_bytes slots sizes)))
    where
      by : (text_parts sections (made_bytes slots sizes) ≡ []) ⊎ (text_end_from 0 (image_sections (plan_of kept sections slots no_islands sizes command)) ≡ text_end kept sections slots sizes command) → pages_moved (text_end_from 0 layout.sections) (areas_bytes (area_unit sections) None islands.areas) ≡ pages_moved (text_end kept sections slots sizes command) (areas_bytes (area_unit sections) None islands.areas)
      by (inl none) =
          let nothing = no_areas kept sections (made_bytes slots sizes) (area_unit sections) islands.areas none is.behind in
          still (text_end_from 0 layout.sections) (areas_bytes (area_unit sections) None islands.areas) nothing ∙ sym (still (text_end kept sections slots sizes command) (areas_bytes (area_unit sections) None islands.areas) nothing)
      by (inr ends) = ap (λ (end : ℕ). pages_moved end (areas_bytes (area_unit sections) None islands.areas)) (ap (λ (placed : List PlacedSection). text_end_from 0 placed) is.laid.sections ∙ ends)

  table_rises : IsStrictlySortedBy (on (λ (step : Step). step.last) compare_keys) table.steps
  table_rises = subst (λ (steps : List Step). IsStrictlySortedBy (on (λ (step : Step). step.last) compare_keys) steps) (sym steps_same) (steps_rise (area_unit sections) 0 islands.areas is.rising)

  before_same : (key : AtomKey) → step_before table.steps table.all key ≡ areas_bytes (area_unit sections) (Some key) islands.areas
  before_same key =
      let come = steps_come_to (area_unit sections) 0 table.all key islands.areas is.rising (all_same ∙ omega arith) in
      ap (λ (steps : List Step). step_before steps table.all key) steps_same ∙ (come ∙ omega arith)

  -- ---- sections that list an atom

  each_rises : All (λ (p : PlacedSection). IsStrictlySortedBy compare_keys p.section.atoms) layout.sections
  unfolding IsStrictlySortedBy
  each_rises =
      All-from_recursion (λ (p : PlacedSection). IsStrictlySortedBy compare_keys p.section.atoms) layout.sections
      (placed_all layout.sections (all_there (λ (section : OutSection). IsStrictlySortedBy compare_keys section.atoms) sections (sections_in layout.sections) are
      (λ section h. all_in (λ (s : OutSection). IsStrictlySortedBy compare_keys s.atoms) sections section (recursion_from_All (λ (s : OutSection). IsStrictlySortedBy compare_keys s.atoms) sections is.ordered.each) h)
      (λ section none. subst (λ (keys : List AtomKey). IsStrictlySortedBy compare_keys keys) (sym none) tt)))
    where
      placed_all : (placed : List PlacedSection) → AllByRecursion (λ (s : OutSection). IsStrictlySortedBy compare_keys s.atoms) (sections_in placed) → AllByRecursion (λ (p : PlacedSection). IsStrictlySortedBy compare_keys p.section.atoms) placed
      placed_all [] all = tt
      placed_all (p ∷ placed) all = (all.0, placed_all placed all.1)

  code_back : (key : AtomKey) → Contains (keys_of (filter (in_region Code) (sections_in layout.sections))) key → Contains (code_keys sections) key
  unfolding code_keys
  code_back key h = Contains_from_in (keys_of (filter is_code sections)) key (listed_back sections (sections_in layout.sections) is_code key are (in_from_Contains (keys_of (filter is_code (sections_in layout.sections))) key h))

  code_there : (key : AtomKey) → Contains (code_keys sections) key → Contains (keys_of (filter (in_region Code) (sections_in layout.sections))) key
  unfolding code_keys
  code_there key h = Contains_from_in (keys_of (filter is_code (sections_in layout.sections))) key (listed_there sections (sections_in layout.sections) is_code key are (λ section code. (agree section).code code) (in_from_Contains (keys_of (filter is_code sections)) key h))

  abbrev text_keys_of : List OutSection → List AtomKey
  text_keys_of ss = keys_of (filter (is_in (codes "__TEXT")) ss)

  text_back : (key : AtomKey) → Contains (keys_of (filter (in_region Text) (sections_in layout.sections))) key → Contains (text_keys_of sections) key
  text_back key h = Contains_from_in (text_keys_of sections) key (listed_back sections (sections_in layout.sections) (is_in (codes "__TEXT")) key are (in_from_Contains (text_keys_of (sections_in layout.sections)) key h))

  text_there : (key : AtomKey) → Contains (text_keys_of sections) key → Contains (keys_of (filter (in_region Text) (sections_in layout.sections))) key
  text_there key h = Contains_from_in (text_keys_of (sections_in layout.sections)) key (listed_there sections (sections_in layout.sections) (is_in (codes "__TEXT")) key are (λ section text. text) (in_from_Contains (text_keys_of sections) key h))

  -- ---- one place before and one after

  abbrev before_all : List Placed
  before_all = image_places (plan_of kept sections slots no_islands sizes command)

  abbrev after_all : List Placed
  after_all = image_places (plan_of kept sections slots islands sizes command)

  one_place : (key : AtomKey) (a b : ℕ) → In (record { atom = key; address = a }) before_all → In (record { atom = key; address = b }) before_all → a ≡ b
  one_place key a b p q =
      let same : (let x : Placed = record { atom = key; address = a } in x) ≡ record { atom = key; address = b } = one_by_map (λ (x : Placed). x.atom) before_all (image_apart kept sections slots no_islands sizes command is.ordered.once) (record { atom = key; address = a }) (record { atom = key; address = b }) p q refl in
      ap (λ (x : Placed). x.address) same

  some_place : (key : AtomKey) (a : ℕ) → In (record { atom = key; address = a }) before_all → (b : ℕ) × Contains after_all (record { atom = key; address = b })
  some_place key a p =
      let keys : In key (map (λ (x : Placed). x.atom) before_all) = in_map (λ (x : Placed). x.atom) before_all (record { atom = key; address = a }) p in
      let same : map (λ (x : Placed). x.atom) before_all ≡ map (λ (x : Placed). x.atom) after_all = image_keys kept sections slots no_islands sizes command ∙ sym (image_keys kept sections slots islands sizes command) in
      let found : (x : Placed) × In x after_all × (x.atom ≡ key) = from_map (λ (x : Placed). x.atom) after_all key (subst (λ (ks : List AtomKey). In key ks) same keys) in
      let whole : found.0 ≡ record { atom = key; address = found.0.address } = ap (λ (k : AtomKey). let x : Placed = record { atom = k; address = found.0.address } in x) found.2 in
      (found.0.address, Contains_from_in after_all (record { atom = key; address = found.0.address }) (subst (λ (x : Placed). In x after_all) whole found.1))

  abbrev Moves : AtomKey → ℕ → ℕ → Type 0
  Moves key a b = IsMoved sections islands.areas (text_end kept sections slots sizes command) key a b

  -- where an atom of the layout stands with islands
  goes_to : (key : AtomKey) (place : ℕ) → Contains layout.placed (record { atom = key; address = place }) → (after : ℕ) × Contains after_all (record { atom = key; address = after }) × Moves key place after
  goes_to key place h =
      let here : In (record { atom = key; address = place }) before_all = in_from_Contains before_all (record { atom = key; address = place }) (Contains-permutation layout.placed before_all (record { atom = key; address = place }) (IsPermutation-sym before_all layout.placed is.laid.places) h) in
      let after = some_place key place here in
      let moved = moved_law kept sections slots islands sizes command is.ordered is.behind is.rising key after.0 after.1 in
      let same : moved.0 ≡ place = one_place key moved.0 place (in_from_Contains before_all (record { atom = key; address = moved.0 }) moved.1) here in
      (after.0, after.1, subst (λ (n : ℕ). Moves key n after.0) same moved.2)

  pub nowhere : (key : AtomKey) → ((place : ℕ) → ¬ Contains layout.placed (record { atom = key; address = place })) → (place : ℕ) → ¬ Contains after_all (record { atom = key; address = place })
  nowhere key none place h =
      let moved = moved_law kept sections slots islands sizes command is.ordered is.behind is.rising key place h in
      none moved.0 (Contains-permutation before_all layout.placed (record { atom = key; address = moved.0 }) is.laid.places moved.1)

  by_code : (key : AtomKey) (a b : ℕ) → Contains (code_keys sections) key → Moves key a b → b ≡ a + step_before table.steps table.all key
  by_code key a b code (inl m) = m.1 ∙ ap (λ (n : ℕ). a + n) (sym (before_same key))
  by_code key a b code (inr (inl m)) = absurd (m.1 code)
  by_code key a b code (inr (inr m)) = absurd (m.0 (code_in_text sections key code))

  by_text : (key : AtomKey) (a b : ℕ) → (Contains (code_keys sections) key → ⊥) → Contains (text_keys_of sections) key → Moves key a b → b ≡ a + table.all
  by_text key a b away text (inl m) = absurd (away m.0)
  by_text key a b away text (inr (inl m)) = m.2 ∙ ap (λ (n : ℕ). a + n) (sym all_same)
  by_text key a b away text (inr (inr m)) = absurd (m.0 text)

  by_pages : (key : AtomKey) (a b : ℕ) → (Contains (code_keys sections) key → ⊥) → (Contains (text_keys_of sections) key → ⊥) → Moves key a b → b ≡ a + table.pages
  by_pages key a b away late (inl m) = absurd (away m.0)
  by_pages key a b away late (inr (inl m)) = absurd (late m.0)
  by_pages key a b away late (inr (inr m)) = m.1 ∙ ap (λ (n : ℕ). a + n) (sym pages_same)

  abbrev Answers : AtomKey → Option ℕ → Type 0
  Answers key result = IsAddressIn (plan_of kept sections slots islands sizes command) key result

  abbrev Has : AtomKey → ℕ → Type 0
  Has key place = Contains layout.placed (record { atom = key; address = place })

  ends : (key : AtomKey) (result place bytes after : ℕ) → Contains after_all (record { atom = key; address = after }) → after ≡ place + bytes → result ≡ capped (place + bytes) → Answers key (Some result)
  ends key result place bytes after h moved is = (after, h, is ∙ ap capped (sym moved))

  answers_code : (key : AtomKey) (place result : ℕ) → Has key place → Contains (keys_of (filter (in_region Code) (sections_in layout.sections))) key → result ≡ capped (place + step_before table.steps table.all key) → Answers key (Some result)
  answers_code key place result h code answered =
      let goes = goes_to key place h in
      ends key result place (step_before table.steps table.all key) goes.0 goes.1 (by_code key place goes.0 (code_back key code) goes.2) answered

  answers_text : (key : AtomKey) (place result : ℕ) → Has key place → (Contains (keys_of (filter (in_region Code) (sections_in layout.sections))) key → ⊥) → Contains (keys_of (filter (in_region Text) (sections_in layout.sections))) key → result ≡ capped (place + table.all) → Answers key (Some result)
  answers_text key place result h away text answered =
      let goes = goes_to key place h in
      ends key result place table.all goes.0 goes.1 (by_text key place goes.0 (λ code. away (code_there key code)) (text_back key text) goes.2) answered

  answers_pages : (key : AtomKey) (place result : ℕ) → Has key place → (Contains (keys_of (filter (in_region Code) (sections_in layout.sections))) key → ⊥) → (Contains (keys_of (filter (in_region Text) (sections_in layout.sections))) key → ⊥) → result ≡ capped (place + table.pages) → Answers key (Some result)
  answers_pages key place result h away late answered =
      let goes = goes_to key place h in
      ends key result place table.pages goes.0 goes.1 (by_pages key place goes.0 (λ code. away (code_there key code)) (λ text. late (text_there key text)) goes.2) answered

  pub answers : (key : AtomKey) (place bytes result : ℕ) → Has key place → IsShift layout.sections table key bytes → result ≡ capped (place + bytes) → Answers key (Some result)
  answers key place bytes result h shift answered = by (shift each_rises table_rises)
    where
      by : IsShiftBy layout.sections table key bytes → Answers key (Some result)
      by (inl p) = answers_code key place result h p.0 (answered ∙ ap (λ (n : ℕ). capped (place + n)) p.1)
      by (inr (inl p)) = answers_text key place result h p.0 p.1 (answered ∙ ap (λ (n : ℕ). capped (place + n)) p.2)
      by (inr (inr p)) = answers_pages key place result h p.0 p.1 (answered ∙ ap (λ (n : ℕ). capped (place + n)) p.2)

  -- ---- in the midst of a section

  abbrev There : PlacedSection → AtomKey → Type 0
  There p key = In p layout.sections × In key p.section.atoms

  around : (key : AtomKey) (place : ℕ) (p : PlacedSection) → Has key place → IsAround layout.sections place p → There p key
  around key place p h is_around = stands_amid kept sections slots sizes command layout is.laid key place p h is_around

  -- sections that list an atom are one
  listed_in : (t : OutSection → Bool) (key : AtomKey) (p : PlacedSection) → There p key → Contains (keys_of (filter t (sections_in layout.sections))) key → t p.section ≡ true
  listed_in t key p there h =
      let found : (section : OutSection) × In section (filter t (sections_in layout.sections)) × In key section.atoms = from_flat (λ (s : OutSection). s.atoms) (filter t (sections_in layout.sections)) key (in_from_Contains (keys_of (filter t (sections_in layout.sections))) key h) in
      let passed = from_filter t (sections_in layout.sections) found.0 found.1 in
      let own : (section : OutSection) → In section (sections_in layout.sections) → In key section.atoms → In section sections = λ section k listed. by section listed (are.known section k) in
      let same : found.0 ≡ p.section = one_section sections found.0 p.section key (from_pairs (keys_of sections) is.ordered.once) (own found.0 passed.0 found.2) (own p.section (in_map (λ (q : PlacedSection). q.section) layout.sections p there.0) there.1) found.2 there.1 in
      subst (λ (s : OutSection). t s ≡ true) same passed.1
    where
      by : (section : OutSection) → In key section.atoms → In section sections ⊎ ((section.atoms ≡ []) × ((section.align ≤ 2) ⊎ (is_in (codes "__TEXT") section ≡ false))) → In section sections
      by section listed (inl h) = h
      by section listed (inr none) = absurd (subst (λ (keys : List AtomKey). In key keys) none.0 listed)

  in_region_of : (t : OutSection → Bool) (key : AtomKey) (p : PlacedSection) → There p key → t p.section ≡ true → Contains (keys_of (filter t (sections_in layout.sections))) key
  in_region_of t key p there passes =
      Contains_from_in (keys_of (filter t (sections_in layout.sections))) key
      (chosen_there t (sections_in layout.sections) p.section key (in_map (λ (q : PlacedSection). q.section) layout.sections p there.0) passes there.1)

  pub answers_amid : (key : AtomKey) (place bytes result : ℕ) (p : PlacedSection) → Has key place → IsAround layout.sections place p → IsShiftIn p.section table key bytes → result ≡ capped (place + bytes) → Answers key (Some result)
  answers_amid key place bytes result p h is_around shift answered = by (cases_Bool (is_code p.section)) (cases_Bool (is_in (codes "__TEXT") p.section))
    where
      there : There p key
      there = around key place p h is_around

      away : (t : OutSection → Bool) → t p.section ≡ false → Contains (keys_of (filter t (sections_in layout.sections))) key → ⊥
      away t none listed = false≢true (sym none ∙ listed_in t key p there listed)

      moved : (n : ℕ) → shift_in p.section table key ≡ n → result ≡ capped (place + n)
      moved n e = answered ∙ ap (λ (m : ℕ). capped (place + m)) (shift table_rises ∙ e)

      by : (is_code p.section ≡ true) ⊎ (is_code p.section ≡ false) → (is_in (codes "__TEXT") p.section ≡ true) ⊎ (is_in (codes "__TEXT") p.section ≡ false) → Answers key (Some result)
      by (inl code) text = answers_code key place result h (in_region_of is_code key p there code) (moved (step_before table.steps table.all key) (rw code refl))
      by (inr other) (inl text) = answers_text key place result h (away is_code other) (in_region_of (is_in (codes "__TEXT")) key p there text) (moved table.all (rw (other, text) refl))
      by (inr other) (inr late) = answers_pages key place result h (away is_code other) (away (is_in (codes "__TEXT")) late) (moved table.pages (rw (other, late) refl))

  pub answers_at : (key : AtomKey) (place bytes result : ℕ) → Has key place → IsShiftAt layout.sections table key place bytes → result ≡ capped (place + bytes) → Answers key (Some result)
  answers_at key place bytes result h (inl shift) answered = answers key place bytes result h shift answered
  answers_at key place bytes result h (inr amid) answered = answers_amid key place bytes result amid.0 h amid.1 amid.2 answered
