-- No section of an image has an atom with a greater alignment than its own.
use Rattle.std.proofs.Common.{◌≡◌, ℕ, ◌+◌, ◌-◌, ◌*◌, ◌^◌, ◌≤◌, ◌⊎◌, true, false, max, List, [], ◌∷◌, map, Option, Some, None, refl, sym, ap, subst, ◌∙◌, inl, inr, arith}
use Rattle.std.specs.List.{filter, AllByRecursion}
use Rattle.std.specs.List.Sorted.{IsStrictlySortedBy}
use Rattle.std.specs.Ordering.{is_eq, on}
use Rattle.std.proofs.lemmas.Bool.{cases_Bool, false≢true}
use Rattle.std.proofs.lemmas.Nat.{pow-add}
use Rattle.list_lemmas.proofs.Members.{In, all_in, all_from_in, find_none, from_filter, from_map, in_filter, in_map}
use Rattle.list_lemmas.proofs.Rising.{rising_map}
use Rattle.mo_types.specs.Keys.{compare_keys}
use Rattle.mo_types.specs.declared.atom.Atom.{Atom}
use Rattle.mo_types.specs.declared.key.AtomKey.{AtomKey}
use Rattle.mo_types.specs.declared.loaded.LoadedFile.{LoadedFile}
use Rattle.mo_types.specs.declared.out_section.OutSection.{OutSection}
use Rattle.tlv_plan.specs.Template.{aligned, atoms_of, greatest_align, is_thread_local, thread_local}
use Rattle.tlv_plan.proofs.Walk.{aligned_least}
use Rattle.sect_list.specs.OutSections.{Home, Row, going_to, home_of, in_order, led, led_by, out_sections, row_of, rows, same_destination, section_with, sections_of}
use Rattle.sect_list.proofs.Once.{Apart, keys_apart, one_by_map, order_members, section_behind}
use Rattle.sect_place.proofs.Positions.{finds, found_atom, keys_listed}
use Rattle.loader_laws.proofs.Finding.{key_itself}
use Rattle.loader_laws.proofs.Raising.{greatest}

-- ---- the greatest of some alignments

greatest_above : (sections : List OutSection) (section : OutSection) → In section sections → section.align ≤ greatest_align sections
unfolding greatest_align
greatest_above [] section h = absurd h
greatest_above (s ∷ sections) section (inl e) = subst (λ (n : ℕ). n ≤ max s.align (greatest_align sections)) (ap (λ (q : OutSection). q.align) e) (omega arith)
greatest_above (s ∷ sections) section (inr h) = let rest = greatest_above sections section h in omega (arith, rest)

-- ---- the atoms of a section

pub in_kept : (kept : List Atom) (keys : List AtomKey) (atom : Atom) → In atom (atoms_of kept keys) → In atom kept
unfolding atoms_of
in_kept kept [] atom h = absurd h
in_kept kept (key ∷ keys) atom h = by (finds kept key) refl (in_kept kept keys atom)
  where
    by : (o : Option Atom) → finds kept key ≡ o → (In atom (atoms_of kept keys) → In atom kept) → In atom kept
    by None e rest = rest (rw e at h)
    by (Some found) e rest = first (rw e at h)
      where
        first : (found ≡ atom) ⊎ In atom (atoms_of kept keys) → In atom kept
        first (inl p) = subst (λ (a : Atom). In a kept) p (found_atom kept key found e).1
        first (inr q) = rest q

row_kept : (files : List LoadedFile) (kept : List Atom) (row : Row) → In row (rows files kept) → In row.atom kept
unfolding rows row_of
row_kept files [] row h = absurd h
row_kept files (atom ∷ kept) row h = by (home_of files atom.key.file atom.key.section) refl (row_kept files kept row)
  where
    by : (home : Option Home) → home_of files atom.key.file atom.key.section ≡ home → (In row (rows files kept) → In row.atom kept) → In row.atom (atom ∷ kept)
    by None e rest = inr (rest (rw e at h))
    by (Some home) e rest = first (rw e at h)
      where
        first : (record { atom = atom; home = home } ≡ row) ⊎ In row (rows files kept) → In row.atom (atom ∷ kept)
        first (inl p) = inl (ap (λ (r : Row). r.atom) p)
        first (inr q) = inr (rest q)

abbrev HasLow : List Atom → OutSection → Type 0
HasLow kept section = AllByRecursion (λ (atom : Atom). atom.align ≤ section.align) (atoms_of kept section.atoms)

section_aligned : (files : List LoadedFile) (kept : List Atom) → Apart (map (λ (atom : Atom). atom.key) kept) → (section : OutSection) → In section (sections_of (rows files kept)) → HasLow kept section
unfolding section_with going_to
section_aligned files kept apart section h =
    let all = rows files kept in
    let found = section_behind all section h in
    subst (HasLow kept) found.1
    (all_from_in (λ (atom : Atom). atom.align ≤ (section_with found.0 (going_to all found.0)).align) (atoms_of kept (section_with found.0 (going_to all found.0)).atoms)
    (λ atom there.
    let keyed : (row : Row) × In row (going_to all found.0) × (row.atom.key ≡ atom.key) = from_map (λ (row : Row). row.atom.key) (going_to all found.0) atom.key (keys_listed kept (section_with found.0 (going_to all found.0)).atoms atom there) in
    let row_there : In keyed.0 all = (from_filter (λ (row : Row). same_destination row.home.to found.0) all keyed.0 keyed.1).0 in
    let same : keyed.0.atom ≡ atom = one_by_map (λ (a : Atom). a.key) kept apart keyed.0.atom atom (row_kept files kept keyed.0 row_there) (in_kept kept (section_with found.0 (going_to all found.0)).atoms atom there) keyed.2 in
    greatest 0 (map (λ (row : Row). row.atom.align) (going_to all found.0)) atom.align (subst (λ (a : Atom). In a.align (map (λ (row : Row). row.atom.align) (going_to all found.0))) same (in_map (λ (row : Row). row.atom.align) (going_to all found.0) keyed.0 keyed.1))))

-- ---- the first section of the template

higher : (kept : List Atom) (section : OutSection) (align : ℕ) → section.align ≤ align → HasLow kept section → HasLow kept (record section { align = align })
higher kept section align low all = all_from_in (λ (atom : Atom). atom.align ≤ align) (atoms_of kept section.atoms) (λ atom h. let here = all_in (λ (a : Atom). a.align ≤ section.align) (atoms_of kept section.atoms) atom all h in omega (arith, here, low))

led_aligned : (kept : List Atom) (align : ℕ) (sections : List OutSection) → ((s : OutSection) → In s sections → is_thread_local s ≡ true → s.align ≤ align) → AllByRecursion (HasLow kept) sections → AllByRecursion (HasLow kept) (led_by align sections)
led_aligned kept align [] low all = tt
led_aligned kept align (section ∷ sections) low all = by (cases_Bool (is_thread_local section)) (led_aligned kept align sections (λ s h. low s (inr h)) all.1)
  where
    by : (is_thread_local section ≡ true) ⊎ (is_thread_local section ≡ false) → AllByRecursion (HasLow kept) (led_by align sections) → AllByRecursion (HasLow kept) (led_by align (section ∷ sections))
    by (inl local) rest = rw local (higher kept section align (low section (inl refl) local) all.0, all.1)
    by (inr other) rest = rw other (all.0, rest)

pub atoms_low : (files : List LoadedFile) (kept : List Atom) → IsStrictlySortedBy (on (λ (atom : Atom). atom.key) compare_keys) kept → (section : OutSection) (atom : Atom) → In section (out_sections files kept) → In atom (atoms_of kept section.atoms) → atom.align ≤ section.align
unfolding out_sections led thread_local
atoms_low files kept rising section atom h there =
    let ordered : List OutSection = in_order (sections_of (rows files kept)) in
    let apart : Apart (map (λ (a : Atom). a.key) kept) = keys_apart (map (λ (a : Atom). a.key) kept) (rising_map (λ (a : Atom). a.key) compare_keys kept rising) in
    let each : AllByRecursion (HasLow kept) ordered = all_from_in (HasLow kept) ordered (λ s k. section_aligned files kept apart s (order_members (sections_of (rows files kept)) s k)) in
    let all : AllByRecursion (HasLow kept) (led_by (greatest_align (filter is_thread_local ordered)) ordered) =
    led_aligned kept (greatest_align (filter is_thread_local ordered)) ordered (λ s k local. greatest_above (filter is_thread_local ordered) s (in_filter is_thread_local ordered s k local)) each in
    all_in (λ (a : Atom). a.align ≤ section.align) (atoms_of kept section.atoms) atom (all_in (HasLow kept) (led_by (greatest_align (filter is_thread_local ordered)) ordered) section all h) there

-- ---- listed atoms are kept

abbrev AreOf : List AtomKey → OutSection → Type 0
AreOf keys section = (key : AtomKey) → In key section.atoms → In key keys

led_of : (keys : List AtomKey) (align : ℕ) (sections : List OutSection) → AllByRecursion (AreOf keys) sections → AllByRecursion (AreOf keys) (led_by align sections)
led_of keys align [] all = tt
led_of keys align (section ∷ sections) all = by (cases_Bool (is_thread_local section)) (led_of keys align sections all.1)
  where
    by : (is_thread_local section ≡ true) ⊎ (is_thread_local section ≡ false) → AllByRecursion (AreOf keys) (led_by align sections) → AllByRecursion (AreOf keys) (led_by align (section ∷ sections))
    by (inl local) rest = rw local (all.0, all.1)
    by (inr other) rest = rw other (all.0, rest)

section_lists : (files : List LoadedFile) (kept : List Atom) (section : OutSection) → In section (sections_of (rows files kept)) → AreOf (map (λ (a : Atom). a.key) kept) section
unfolding section_with going_to
section_lists files kept section h =
    let all = rows files kept in
    let found = section_behind all section h in
    subst (AreOf (map (λ (a : Atom). a.key) kept)) found.1
    (λ key listed.
    let keyed : (row : Row) × In row (going_to all found.0) × (row.atom.key ≡ key) = from_map (λ (row : Row). row.atom.key) (going_to all found.0) key listed in
    let row_there : In keyed.0 all = (from_filter (λ (row : Row). same_destination row.home.to found.0) all keyed.0 keyed.1).0 in
    subst (λ (k : AtomKey). In k (map (λ (a : Atom). a.key) kept)) keyed.2 (in_map (λ (a : Atom). a.key) kept keyed.0.atom (row_kept files kept keyed.0 row_there)))

-- a kept atom with the key
pub listed_found : (files : List LoadedFile) (kept : List Atom) (section : OutSection) (key : AtomKey) → In section (out_sections files kept) → In key section.atoms → (atom : Atom) × (finds kept key ≡ Some atom)
unfolding out_sections led
listed_found files kept section key h listed = by (finds kept key) refl
  where
    ordered : List OutSection
    ordered = in_order (sections_of (rows files kept))

    keys : List AtomKey
    keys = map (λ (a : Atom). a.key) kept

    each : AllByRecursion (AreOf keys) (led_by (greatest_align (thread_local ordered)) ordered)
    each = led_of keys (greatest_align (thread_local ordered)) ordered (all_from_in (AreOf keys) ordered (λ s k. section_lists files kept s (order_members (sections_of (rows files kept)) s k)))

    there : (atom : Atom) × In atom kept × (atom.key ≡ key)
    there = from_map (λ (a : Atom). a.key) kept key (all_in (AreOf keys) (led_by (greatest_align (thread_local ordered)) ordered) section each h key listed)

    by : (o : Option Atom) → finds kept key ≡ o → (atom : Atom) × (finds kept key ≡ Some atom)
    by (Some atom) e = (atom, e)
    by None e =
        let away : is_eq (compare_keys there.0.key key) ≡ false = find_none (λ (a : Atom). is_eq (compare_keys a.key key)) kept there.0 e there.1 in
        absurd (false≢true (sym away ∙ ap (λ (k : AtomKey). is_eq (compare_keys k key)) there.2 ∙ key_itself key))

-- ---- places that are aligned already

power_split : (align v : ℕ) → align ≤ v → 2 ^ v ≡ 2 ^ (v - align) * 2 ^ align
power_split align v low =
    let same : v ≡ v - align + align = omega (arith, low) in
    ap (λ (n : ℕ). 2 ^ n) same ∙ pow-add 2 (v - align) align

assoc : (a b c : ℕ) → a * (b * c) ≡ (a * b) * c
assoc a b c = omega arith

-- a place that is a multiple of a greater alignment is its own least multiple
pub stays : (align v place count : ℕ) → align ≤ v → place ≡ count * 2 ^ v → aligned align place ≡ place
stays align v place count low is =
    let whole : place ≡ (count * 2 ^ (v - align)) * 2 ^ align = is ∙ ap (λ (n : ℕ). count * n) (power_split align v low) ∙ assoc count (2 ^ (v - align)) (2 ^ align) in
    let near = aligned_least align place in
    let up = near.enough in
    let down : aligned align place ≤ (count * 2 ^ (v - align)) * 2 ^ align = near.least (count * 2 ^ (v - align)) (omega (arith, whole)) in
    omega (arith, up, down, whole)
