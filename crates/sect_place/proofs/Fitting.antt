-- The sections of an image are no finer than the areas in `__TEXT`, and those behind `__TEXT` have no areas.
use Rattle.std.proofs.Common.{◌≡◌, ℕ, ◌+◌, ◌*◌, ◌≤◌, ◌⊎◌, ◌++◌, ◌==◌, Bool, true, false, max, List, [], ◌∷◌, map, length, Option, Some, None, All, Contains, codes, refl, ap, subst, ◌∙◌, inl, inr, arith}
use Rattle.std.specs.List.{filter, find, AllByRecursion}
use Rattle.std.specs.List.Sorted.{IsStrictlySortedBy}
use Rattle.std.specs.Ordering.{on, is_eq}
use Rattle.std.specs.Str.{bytes_eq}
use Rattle.std.proofs.lemmas.Bool.{cases_Bool}
use Rattle.std.proofs.lemmas.List.Elements.{recursion_from_All}
use Rattle.list_lemmas.proofs.Members.{In, in_from_Contains, all_in, all_from_in, all_map, all_weaker, from_filter}
use Rattle.mo_types.specs.Keys.{compare_keys}
use Rattle.mo_types.specs.declared.atom.Atom.{Atom}
use Rattle.mo_types.specs.declared.key.AtomKey.{AtomKey}
use Rattle.mo_types.specs.declared.out_section.OutSection.{OutSection}
use Rattle.tlv_plan.specs.Template.{atoms_of, keys_of}
use Rattle.tlv_plan.proofs.Walk.{aligned_least}
use Rattle.sect_place.specs.Arrangement.{is_code, is_chosen, with_atoms, chosen, section_of, own, group_named, runs_from, runs, MadeBytes, text_parts, constant_parts, writable_parts}
use Rattle.sect_list.specs.OutSections.{is_in}
use Rattle.sect_place.specs.Moved.{AreInOrder, AreBehindCode, code_keys}
use Rattle.sect_place.specs.Places.{area_unit, bytes_behind, islands_bytes}
use Rattle.sect_place.specs.declared.island.IslandArea.{IslandArea}
use Rattle.sect_place.specs.declared.part.Choice.{Choice}
use Rattle.sect_place.specs.declared.part.Choice.TheVariants.{Code, BesideCode, Constant, Writable, Elsewhere}
use Rattle.sect_place.specs.declared.part.Group.{Group}
use Rattle.sect_place.specs.declared.part.Made.{Made}
use Rattle.sect_place.specs.declared.part.Made.TheVariants.{Stubs, UnwindInfo, Got, ThreadPtrs}
use Rattle.sect_place.specs.declared.part.Part.{Part}
use Rattle.sect_place.proofs.Areas.{nothing_behind}
use Rattle.sect_list.proofs.Low.{appended}
use Rattle.sect_place.proofs.Positions.{chosen_there, from_pairs, kept_listed, keys_listed, one_choice, chosen_in_text}
use Rattle.sect_place.proofs.Pushed.{AllFit, Fits, FitsGroup, FitsPart, IsWhole, PartsFit, extra, part_atoms, total, total_join}
use Rattle.sect_place.proofs.Sound.{later_groups}

-- ---- the greatest alignment in `__TEXT`

pub unit_least : (sections : List OutSection) → 2 ≤ area_unit sections
unfolding area_unit
unit_least [] = omega arith
unit_least (section ∷ sections) = by (is_in (codes "__TEXT") section) refl (unit_least sections)
  where
    by : (b : Bool) → is_in (codes "__TEXT") section ≡ b → 2 ≤ area_unit sections → 2 ≤ area_unit (section ∷ sections)
    by true e rest = rw e (omega (arith, rest))
    by false e rest = rw e rest

pub unit_above : (sections : List OutSection) (section : OutSection) → In section sections → is_in (codes "__TEXT") section ≡ true → section.align ≤ area_unit sections
unfolding area_unit
unit_above [] section h text = absurd h
unit_above (s ∷ sections) section (inl e) text =
    let here : is_in (codes "__TEXT") s ≡ true = ap (is_in (codes "__TEXT")) e ∙ text in
    rw here (subst (λ (n : ℕ). n ≤ max s.align (area_unit sections)) (ap (λ (q : OutSection). q.align) e) (omega arith))
unit_above (s ∷ sections) section (inr h) text = by (is_in (codes "__TEXT") s) refl (unit_above sections section h text)
  where
    by : (b : Bool) → is_in (codes "__TEXT") s ≡ b → section.align ≤ area_unit sections → section.align ≤ area_unit (s ∷ sections)
    by true e rest = rw e (omega (arith, rest))
    by false e rest = rw e rest

pub unit_below : (sections : List OutSection) (n : ℕ) → 2 ≤ n → ((section : OutSection) → In section sections → is_in (codes "__TEXT") section ≡ true → section.align ≤ n) → area_unit sections ≤ n
unfolding area_unit
unit_below [] n low each = low
unit_below (section ∷ sections) n low each = by (is_in (codes "__TEXT") section) refl (unit_below sections n low (λ s h. each s (inr h)))
  where
    by : (b : Bool) → is_in (codes "__TEXT") section ≡ b → area_unit sections ≤ n → area_unit (section ∷ sections) ≤ n
    by true e rest = let here = each section (inl refl) e in rw e (omega (arith, rest, here))
    by false e rest = rw e rest

pub islands_whole : (unit count : ℕ) → IsWhole unit (islands_bytes unit count)
islands_whole unit count = by (cases_Bool (count == 0))
  where
    by : (count == 0 ≡ true) ⊎ (count == 0 ≡ false) → IsWhole unit (islands_bytes unit count)
    by (inl none) = rw none (0, omega arith)
    by (inr some) = rw some (aligned_least unit (3 + 12 * count)).whole

behind_whole : (areas : List IslandArea) (unit : ℕ) (key : AtomKey) → IsWhole unit (bytes_behind areas unit key)
unfolding bytes_behind
behind_whole areas unit key = by (find (λ (area : IslandArea). is_eq (compare_keys area.last key)) areas) refl
  where
    by : (o : Option IslandArea) → find (λ (area : IslandArea). is_eq (compare_keys area.last key)) areas ≡ o → IsWhole unit (bytes_behind areas unit key)
    by None e = rw e (0, omega arith)
    by (Some area) e = rw e (islands_whole unit (length area.targets))

-- ---- parts and segments of which something holds

own_all : (P : Part → Type 0) (made : Made) (bytes : ℕ) → ((fixed : ℕ) → P (record { section = section_of made; fixed = fixed })) → AllByRecursion P (own made bytes)
own_all P made bytes holds = by (cases_Bool (bytes == 0))
  where
    by : (bytes == 0 ≡ true) ⊎ (bytes == 0 ≡ false) → AllByRecursion P (own made bytes)
    by (inl none) = rw none tt
    by (inr some) = rw some (holds bytes, tt)

chosen_all : (P : Part → Type 0) (choice : Choice) (sections : List OutSection) → ((section : OutSection) → In section sections → is_chosen choice section ≡ true → P (with_atoms section)) → AllByRecursion P (chosen choice sections)
unfolding chosen
chosen_all P choice sections each =
    all_map with_atoms P (filter (is_chosen choice) sections)
    (all_from_in (λ (section : OutSection). P (with_atoms section)) (filter (is_chosen choice) sections) (λ section h. let passed = from_filter (is_chosen choice) sections section h in each section passed.0 passed.1))

named_all : (Q : Group → Type 0) (P : Part → Type 0) → ((name : List ℕ) (parts : List Part) → AllByRecursion P parts → Q (record { name = name; parts = parts })) → (name : List ℕ) (parts : List Part) → AllByRecursion P parts → AllByRecursion Q (group_named name parts)
named_all Q P make name [] all = tt
named_all Q P make name (part ∷ parts) all = (make name (part ∷ parts) all, tt)

runs_all : (Q : Group → Type 0) (P : Part → Type 0) → ((name : List ℕ) (parts : List Part) → AllByRecursion P parts → Q (record { name = name; parts = parts })) → (name : List ℕ) (run parts : List Part) → AllByRecursion P run → AllByRecursion P parts → AllByRecursion Q (runs_from name run parts)
runs_all Q P make name run [] here rest = named_all Q P make name run here
runs_all Q P make name run (part ∷ parts) here rest =
    elim (cases_Bool (bytes_eq part.section.segment name)) [
      | inl same ↦ rw same (runs_all Q P make name (run ++ part ∷ []) parts (appended P run (part ∷ []) here (rest.0, tt)) rest.1)
      | inr away ↦ rw away (appended Q (group_named name run) (runs_from part.section.segment (part ∷ []) parts) (named_all Q P make name run here) (runs_all Q P make part.section.segment (part ∷ []) parts (rest.0, tt) rest.1))
    ]

pub text_all : (P : Part → Type 0) (sections : List OutSection) (bytes : MadeBytes) → ((fixed : ℕ) → P (record { section = section_of Stubs; fixed = fixed })) → ((fixed : ℕ) → P (record { section = section_of UnwindInfo; fixed = fixed })) → ((section : OutSection) → In section sections → is_in (codes "__TEXT") section ≡ true → P (with_atoms section)) → AllByRecursion P (text_parts sections bytes)
unfolding text_parts
text_all P sections bytes stubs unwind each =
    appended P _ _ (appended P _ _ (appended P _ _ (chosen_all P Code sections (λ s h is. each s h (chosen_in_text s (inl is)))) (own_all P Stubs bytes.stubs stubs)) (chosen_all P BesideCode sections (λ s h is. each s h (chosen_in_text s (inr is))))) (own_all P UnwindInfo bytes.unwind unwind)

pub later_all : (Q : Group → Type 0) (P : Part → Type 0) (sections : List OutSection) (bytes : MadeBytes) → ((name : List ℕ) (parts : List Part) → AllByRecursion P parts → Q (record { name = name; parts = parts })) → ((fixed : ℕ) → P (record { section = section_of Got; fixed = fixed })) → ((fixed : ℕ) → P (record { section = section_of ThreadPtrs; fixed = fixed })) → ((choice : Choice) (section : OutSection) → In section sections → is_chosen choice section ≡ true → (Code ≡ choice → ⊥) → (BesideCode ≡ choice → ⊥) → P (with_atoms section)) → AllByRecursion Q (later_groups sections bytes)
unfolding constant_parts writable_parts runs
later_all Q P sections bytes make got ptrs each =
    appended Q _ _ (appended Q _ _
    (named_all Q P make (codes "__DATA_CONST") (constant_parts sections bytes) (appended P _ _ (own_all P Got bytes.got got) (chosen_all P Constant sections (λ s h is. each Constant s h is (λ e. cc) (λ e. cc)))))
    (named_all Q P make (codes "__DATA") (writable_parts sections bytes) (appended P _ _ (own_all P ThreadPtrs bytes.tlv ptrs) (chosen_all P Writable sections (λ s h is. each Writable s h is (λ e. cc) (λ e. cc))))))
    (runs_all Q P make [] [] (chosen Elsewhere sections) tt (chosen_all P Elsewhere sections (λ s h is. each Elsewhere s h is (λ e. cc) (λ e. cc))))

-- ---- what fits

low_atoms : (kept : List Atom) (sections : List OutSection) → AreInOrder kept sections → (section : OutSection) → In section sections → (atom : Atom) → In atom (atoms_of kept section.atoms) → atom.align ≤ section.align
low_atoms kept sections ordered section h atom there =
    let here : All (λ (atom : Atom). atom.align ≤ section.align) (atoms_of kept section.atoms) = all_in (λ (s : OutSection). All (λ (atom : Atom). atom.align ≤ s.align) (atoms_of kept s.atoms)) sections section (recursion_from_All (λ (s : OutSection). All (λ (atom : Atom). atom.align ≤ s.align) (atoms_of kept s.atoms)) sections ordered.aligned) h in
    all_in (λ (a : Atom). a.align ≤ section.align) (atoms_of kept section.atoms) atom (recursion_from_All (λ (a : Atom). a.align ≤ section.align) (atoms_of kept section.atoms) here) there

pub low_section : (kept : List Atom) (sections : List OutSection) → AreInOrder kept sections → (section : OutSection) → In section sections → section.align ≤ 14
low_section kept sections ordered section h = all_in (λ (s : OutSection). s.align ≤ 14) sections section (recursion_from_All (λ (s : OutSection). s.align ≤ 14) sections ordered.low) h

none_fit : (kept : List Atom) (areas : List IslandArea) (unit v : ℕ) → AllFit areas unit v (atoms_of kept [])
unfolding atoms_of
none_fit kept areas unit v = tt

pub text_fits : (kept : List Atom) (sections : List OutSection) (areas : List IslandArea) (bytes : MadeBytes) → AreInOrder kept sections → PartsFit kept areas (area_unit sections) (area_unit sections) (text_parts sections bytes)
text_fits kept sections areas bytes ordered =
    let unit = area_unit sections in
    text_all (FitsPart kept areas unit unit) sections bytes
    (λ fixed. (unit_least sections, none_fit kept areas unit unit))
    (λ fixed. (unit_least sections, none_fit kept areas unit unit))
    (λ section h text.
    let above = unit_above sections section h text in
    (above, all_from_in (Fits areas unit unit) (atoms_of kept section.atoms) (λ atom there. record { low = omega (arith, above, low_atoms kept sections ordered section h atom there); whole = behind_whole areas unit atom.key })))

-- an atom of another section than those of `__text` has no area
pub no_area : (kept : List Atom) (sections : List OutSection) (areas : List IslandArea) (unit : ℕ) → AreInOrder kept sections → AreBehindCode kept sections areas → IsStrictlySortedBy (on (λ (area : IslandArea). area.last) compare_keys) areas → (choice : Choice) (section : OutSection) → In section sections → is_chosen choice section ≡ true → (Code ≡ choice → ⊥) → (key : AtomKey) → In key section.atoms → bytes_behind areas unit key ≡ 0
unfolding code_keys is_chosen
no_area kept sections areas unit ordered behind rising choice section h is other key there =
    nothing_behind areas unit key rising
    (λ area within same.
    let last : Contains (map (λ (atom : Atom). atom.key) (atoms_of kept (code_keys sections))) area.last = all_in (λ (a : IslandArea). Contains (map (λ (atom : Atom). atom.key) (atoms_of kept (code_keys sections))) a.last) areas area (recursion_from_All (λ (a : IslandArea). Contains (map (λ (atom : Atom). atom.key) (atoms_of kept (code_keys sections))) a.last) areas behind) within in
    let listed : In area.last (keys_of (filter is_code sections)) = kept_listed kept (keys_of (filter is_code sections)) area.last (in_from_Contains (map (λ (atom : Atom). atom.key) (atoms_of kept (keys_of (filter is_code sections)))) area.last last) in
    other (one_choice sections key Code choice (from_pairs (keys_of sections) ordered.once) (subst (λ (k : AtomKey). In k (keys_of (filter is_code sections))) same listed) (chosen_there (is_chosen choice) sections section key h is there)))

-- a section behind `__TEXT`
abbrev Late : List Atom → List IslandArea → ℕ → Part → Type 0
Late kept areas unit part = FitsPart kept areas unit 14 part × (total areas unit (atoms_of kept part.section.atoms) ≡ 0)

no_total : (areas : List IslandArea) (unit : ℕ) (atoms : List Atom) → ((atom : Atom) → In atom atoms → extra areas unit atom ≡ 0) → total areas unit atoms ≡ 0
no_total areas unit [] none = refl
no_total areas unit (atom ∷ atoms) none = let here = none atom (inl refl) in let rest = no_total areas unit atoms (λ a h. none a (inr h)) in omega (arith, here, rest)

late_group : (kept : List Atom) (areas : List IslandArea) (unit : ℕ) (name : List ℕ) (parts : List Part) → AllByRecursion (Late kept areas unit) parts → FitsGroup kept areas unit (record { name = name; parts = parts })
late_group kept areas unit name parts all = (all_weaker (Late kept areas unit) (FitsPart kept areas unit 14) (λ part late. late.0) parts all, none parts all)
  where
    none : (parts : List Part) → AllByRecursion (Late kept areas unit) parts → total areas unit (part_atoms kept parts) ≡ 0
    none [] all = refl
    none (part ∷ parts) all =
        let sums = total_join areas unit (atoms_of kept part.section.atoms) (part_atoms kept parts) in
        let rest = none parts all.1 in
        let here = all.0.1 in
        omega (arith, sums, rest, here)

no_atoms_total : (kept : List Atom) (areas : List IslandArea) (unit : ℕ) → total areas unit (atoms_of kept []) ≡ 0
unfolding atoms_of
no_atoms_total kept areas unit = refl

pub later_fits : (kept : List Atom) (sections : List OutSection) (areas : List IslandArea) (bytes : MadeBytes) → AreInOrder kept sections → AreBehindCode kept sections areas → IsStrictlySortedBy (on (λ (area : IslandArea). area.last) compare_keys) areas → AllByRecursion (FitsGroup kept areas (area_unit sections)) (later_groups sections bytes)
later_fits kept sections areas bytes ordered behind rising =
    let unit = area_unit sections in
    later_all (FitsGroup kept areas unit) (Late kept areas unit) sections bytes (late_group kept areas unit)
    (λ fixed. ((omega arith, none_fit kept areas unit 14), no_atoms_total kept areas unit))
    (λ fixed. ((omega arith, none_fit kept areas unit 14), no_atoms_total kept areas unit))
    (λ choice section h is code beside.
    let low = low_section kept sections ordered section h in
    let none : (atom : Atom) → In atom (atoms_of kept section.atoms) → extra areas unit atom ≡ 0 = λ atom there. no_area kept sections areas unit ordered behind rising choice section h is code atom.key (keys_listed kept section.atoms atom there) in
    ((low, all_from_in (Fits areas unit 14) (atoms_of kept section.atoms) (λ atom there. record { low = omega (arith, low, low_atoms kept sections ordered section h atom there); whole = (0, none atom there ∙ omega arith) })), no_total areas unit (atoms_of kept section.atoms) none))
