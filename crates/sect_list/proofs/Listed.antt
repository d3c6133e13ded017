-- Each atom that has a home is listed in a section of the image.
use Rattle.std.proofs.Common.{◌≡◌, ℕ, ◌⊎◌, ◌++◌, Bool, true, false, not, ◌&&◌, List, [], ◌∷◌, map, Some, Contains, refl, sym, subst, inl, inr}
use Rattle.std.specs.List.{filter}
use Rattle.std.specs.Str.{bytes_eq}
use Rattle.std.proofs.lemmas.Bool.{cases_Bool}
use Rattle.std.proofs.lemmas.Slice.Eq.{bytes_eq-Decides}
use Rattle.list_lemmas.proofs.Inserted.{in_inserted}
use Rattle.list_lemmas.proofs.Members.{In, in_from_Contains, Contains_from_in, in_map, in_filter, in_filter_map, in_flat, in_left, in_right}
use Rattle.mo_types.specs.Destination.{Destination}
use Rattle.mo_types.specs.declared.atom.Atom.{Atom}
use Rattle.mo_types.specs.declared.key.AtomKey.{AtomKey}
use Rattle.mo_types.specs.declared.loaded.LoadedFile.{LoadedFile}
use Rattle.mo_types.specs.declared.out_section.OutSection.{OutSection}
use Rattle.tlv_plan.specs.Template.{greatest_align, is_thread_local, keys_of, thread_local}
use Rattle.sect_list.specs.OutSections.{is_in, Home, Row, rows, row_of, home_of, same_destination, destinations, going_to, section_with, sections_of, is_of, is_regular, ranked, leading, segments_of, in_order, led_by, led, out_sections}
use Rattle.sect_list.proofs.Buckets.{has}
use Rattle.sect_list.proofs.Gathering.{equal, row_with, row_is}

-- ---- from an atom to its section

row_in : (files : List LoadedFile) (kept : List Atom) (atom : Atom) (home : Home) → In atom kept → Some home ≡ home_of files atom.key.file atom.key.section → In (row_with atom home) (rows files kept)
unfolding rows
row_in files kept atom home h is = in_filter_map (row_of files) kept atom (row_with atom home) h (row_is files atom home is)

section_in : (all : List Row) (row : Row) → In row all → In (section_with row.home.to (going_to all row.home.to)) (sections_of all)
unfolding sections_of destinations
section_in all row h =
    in_map (λ (to : Destination). section_with to (going_to all to)) (destinations all) row.home.to
    (in_inserted same_destination (λ a b. (equal a b).0) [] (map (λ (row : Row). row.home.to) all) row.home.to (in_map (λ (row : Row). row.home.to) all row h))

key_in : (all : List Row) (row : Row) → In row all → In row.atom.key (section_with row.home.to (going_to all row.home.to)).atoms
unfolding section_with going_to
key_in all row h =
    in_map (λ (row : Row). row.atom.key) (going_to all row.home.to) row
    (in_filter (λ (other : Row). same_destination other.home.to row.home.to) all row h ((equal row.home.to row.home.to).1 refl))

-- ---- from a section to the image's

all_not : (a b c : Bool) → a ≡ false → b ≡ false → c ≡ false → (not a && not b && not c) ≡ true
all_not a b c e f g = rw (e, f, g) refl

ranked_in : (sections : List OutSection) (section : OutSection) → In section sections → In section (ranked sections)
unfolding ranked
ranked_in sections section h = of_thread_zero (cases_Bool (is_of 0x11 section)) (cases_Bool (is_of 0x12 section)) (cases_Bool (is_of 1 section))
  where
    regular : List OutSection
    regular = filter is_regular sections

    values : List OutSection
    values = filter (is_of 0x11) sections

    thread_zero : List OutSection
    thread_zero = filter (is_of 0x12) sections

    zeros : List OutSection
    zeros = filter (is_of 1) sections

    of_thread_zero : (is_of 0x11 section ≡ true) ⊎ (is_of 0x11 section ≡ false) → (is_of 0x12 section ≡ true) ⊎ (is_of 0x12 section ≡ false) → (is_of 1 section ≡ true) ⊎ (is_of 1 section ≡ false) → In section (filter is_regular sections ++ filter (is_of 0x11) sections ++ filter (is_of 0x12) sections ++ filter (is_of 1) sections)
    of_thread_zero (inl a) b c = in_left ((filter is_regular sections ++ filter (is_of 0x11) sections) ++ filter (is_of 0x12) sections) (filter (is_of 1) sections) section (in_left (filter is_regular sections ++ filter (is_of 0x11) sections) (filter (is_of 0x12) sections) section (in_right (filter is_regular sections) (filter (is_of 0x11) sections) section (in_filter (is_of 0x11) sections section h a)))
    of_thread_zero (inr a) (inl b) c = in_left ((filter is_regular sections ++ filter (is_of 0x11) sections) ++ filter (is_of 0x12) sections) (filter (is_of 1) sections) section (in_right (filter is_regular sections ++ filter (is_of 0x11) sections) (filter (is_of 0x12) sections) section (in_filter (is_of 0x12) sections section h b))
    of_thread_zero (inr a) (inr b) (inl c) = in_right ((filter is_regular sections ++ filter (is_of 0x11) sections) ++ filter (is_of 0x12) sections) (filter (is_of 1) sections) section (in_filter (is_of 1) sections section h c)
    of_thread_zero (inr a) (inr b) (inr c) = in_left ((filter is_regular sections ++ filter (is_of 0x11) sections) ++ filter (is_of 0x12) sections) (filter (is_of 1) sections) section (in_left (filter is_regular sections ++ filter (is_of 0x11) sections) (filter (is_of 0x12) sections) section (in_left (filter is_regular sections) (filter (is_of 0x11) sections) section (in_filter is_regular sections section h (all_not (is_of 0x11 section) (is_of 0x12 section) (is_of 1 section) a b c))))

pub names_equal : (a b : List ℕ) → (bytes_eq a b ≡ true → a ≡ b) × (a ≡ b → bytes_eq a b ≡ true)
names_equal a b = ((bytes_eq-Decides a b).0, (bytes_eq-Decides a b).1)

order_in : (sections : List OutSection) (section : OutSection) → In section sections → In section (in_order sections)
unfolding in_order segments_of
order_in sections section h =
    in_flat (λ segment. ranked (filter (is_in segment) sections)) (segments_of sections) section.segment section
    (in_inserted bytes_eq (λ a b. (names_equal a b).0) leading (map (λ (s : OutSection). s.segment) sections) section.segment (in_map (λ (s : OutSection). s.segment) sections section h))
    (ranked_in (filter (is_in section.segment) sections) section (in_filter (is_in section.segment) sections section h ((names_equal section.segment section.segment).1 refl)))

-- a section of some lists an atom
abbrev Lists : List OutSection → AtomKey → Type 0
Lists sections key = (section : OutSection) × In section sections × In key section.atoms

led_lists : (align : ℕ) (sections : List OutSection) (section : OutSection) (key : AtomKey) → In section sections → In key section.atoms → Lists (led_by align sections) key
led_lists align [] section key h there = absurd h
led_lists align (s ∷ sections) section key (inl e) there = by (is_thread_local s) refl
  where
    by : (b : Bool) → is_thread_local s ≡ b → Lists (led_by align (s ∷ sections)) key
    by true is = rw is (record s { align = align }, inl refl, subst (λ (q : OutSection). In key q.atoms) (sym e) there)
    by false is = rw is (s, inl refl, subst (λ (q : OutSection). In key q.atoms) (sym e) there)
led_lists align (s ∷ sections) section key (inr h) there = by (is_thread_local s) refl (led_lists align sections section key h there)
  where
    by : (b : Bool) → is_thread_local s ≡ b → Lists (led_by align sections) key → Lists (led_by align (s ∷ sections)) key
    by true is rest = rw is (section, inr h, there)
    by false is rest = rw is (rest.0, inr rest.1, rest.2)

pub kept_are_listed : (files : List LoadedFile) (kept : List Atom) (atom : Atom) (home : Home) → Contains kept atom → Some home ≡ home_of files atom.key.file atom.key.section → Contains (keys_of (out_sections files kept)) atom.key
unfolding out_sections led
kept_are_listed files kept atom home h is =
    let row : Row = row_with atom home in
    let all : List Row = rows files kept in
    let there : In row all = row_in files kept atom home (in_from_Contains kept atom h) is in
    let ordered : List OutSection = in_order (sections_of all) in
    let listed : Lists (led_by (greatest_align (thread_local ordered)) ordered) atom.key =
    led_lists (greatest_align (thread_local ordered)) ordered (section_with row.home.to (going_to all row.home.to)) atom.key
    (order_in (sections_of all) (section_with row.home.to (going_to all row.home.to)) (section_in all row there))
    (key_in all row there) in
    Contains_from_in (keys_of (led_by (greatest_align (thread_local ordered)) ordered)) atom.key
    (in_flat (λ (section : OutSection). section.atoms) (led_by (greatest_align (thread_local ordered)) ordered) listed.0 atom.key listed.1 listed.2)
