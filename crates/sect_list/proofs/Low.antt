-- No section has a greater alignment than its atoms and the thread-local sections have.
use Rattle.std.proofs.Common.{◌≡◌, ℕ, ◌≤◌, Bool, true, false, max, List, [], ◌∷◌, ◌++◌, map, All, Option, Some, None, refl, ap, ◌∙◌, arith}
use Rattle.std.specs.List.{filter, flat_map, fold, AllByRecursion}
use Rattle.std.proofs.lemmas.List.Elements.{All-from_recursion, recursion_from_All}
use Rattle.list_lemmas.proofs.Members.{all_map}
use Rattle.mo_types.specs.Destination.{Destination}
use Rattle.mo_types.specs.declared.atom.Atom.{Atom}
use Rattle.mo_types.specs.declared.loaded.LoadedFile.{LoadedFile}
use Rattle.mo_types.specs.declared.out_section.OutSection.{OutSection}
use Rattle.tlv_plan.specs.Template.{greatest_align, is_thread_local, thread_local}
use Rattle.sect_list.specs.OutSections.{is_in, Home, Row, rows, row_of, home_of, going_to, section_with, sections_of, destinations, is_of, is_regular, ranked, segments_of, in_order, led_by, led, out_sections}

abbrev IsLow : OutSection → Type 0
IsLow section = section.align ≤ 14

abbrev IsLowRow : Row → Type 0
IsLowRow row = row.atom.align ≤ 14

abbrev IsLowAtom : Atom → Type 0
IsLowAtom atom = atom.align ≤ 14

filtered : {X : Type 0} (P : X → Type 0) (p : X → Bool) (xs : List X) → AllByRecursion P xs → AllByRecursion P (filter p xs)
filtered P p [] all = tt
filtered P p (x ∷ xs) all = by (p x) refl (filtered P p xs all.1)
  where
    by : (b : Bool) → p x ≡ b → AllByRecursion P (filter p xs) → AllByRecursion P (filter p (x ∷ xs))
    by true e rest = rw e (all.0, rest)
    by false e rest = rw e rest

pub appended : {X : Type 0} (P : X → Type 0) (xs ys : List X) → AllByRecursion P xs → AllByRecursion P ys → AllByRecursion P (xs ++ ys)
appended P [] ys first second = second
appended P (x ∷ xs) ys first second = (first.0, appended P xs ys first.1 second)

each : {X : Type 0} (P : X → Type 0) → ((x : X) → P x) → (xs : List X) → AllByRecursion P xs
each P f [] = tt
each P f (x ∷ xs) = (f x, each P f xs)

spread : {X Y : Type 0} (P : Y → Type 0) (f : X → List Y) → ((x : X) → AllByRecursion P (f x)) → (xs : List X) → AllByRecursion P (flat_map f xs)
spread P f all [] = tt
spread P f all (x ∷ xs) = appended P (f x) (flat_map f xs) (all x) (spread P f all xs)

greatest : (n : ℕ) (xs : List ℕ) → n ≤ 14 → AllByRecursion (λ x. x ≤ 14) xs → fold max n xs ≤ 14
greatest n [] low all = low
greatest n (x ∷ xs) low all = let here : x ≤ 14 = all.0 in greatest (max n x) xs (omega (arith, low, here)) all.1

rows_low : (files : List LoadedFile) (atoms : List Atom) → AllByRecursion IsLowAtom atoms → AllByRecursion IsLowRow (rows files atoms)
unfolding rows row_of
rows_low files [] all = tt
rows_low files (atom ∷ atoms) all = by (home_of files atom.key.file atom.key.section) refl (rows_low files atoms all.1)
  where
    by : (home : Option Home) → home_of files atom.key.file atom.key.section ≡ home → AllByRecursion IsLowRow (rows files atoms) → AllByRecursion IsLowRow (rows files (atom ∷ atoms))
    by None e rest = rw e rest
    by (Some home) e rest = rw e (all.0, rest)

with_low : (to : Destination) (rows : List Row) → AllByRecursion IsLowRow rows → IsLow (section_with to rows)
unfolding section_with
with_low to rows all = greatest 0 (map (λ (row : Row). row.atom.align) rows) (omega arith) (all_map (λ (row : Row). row.atom.align) (λ n. n ≤ 14) rows all)

sections_low : (rows : List Row) → AllByRecursion IsLowRow rows → AllByRecursion IsLow (sections_of rows)
unfolding sections_of going_to
sections_low rows all =
    all_map (λ (to : Destination). section_with to (going_to rows to)) IsLow (destinations rows)
    (each (λ (to : Destination). IsLow (section_with to (going_to rows to))) (λ to. with_low to (going_to rows to) (filtered IsLowRow _ rows all)) (destinations rows))

ranked_low : (sections : List OutSection) → AllByRecursion IsLow sections → AllByRecursion IsLow (ranked sections)
unfolding ranked
ranked_low sections all =
    appended IsLow _ _ (appended IsLow _ _ (appended IsLow _ _ (filtered IsLow is_regular sections all) (filtered IsLow (is_of 0x11) sections all)) (filtered IsLow (is_of 0x12) sections all)) (filtered IsLow (is_of 1) sections all)

order_low : (sections : List OutSection) → AllByRecursion IsLow sections → AllByRecursion IsLow (in_order sections)
unfolding in_order
order_low sections all =
    spread IsLow (λ segment. ranked (filter (is_in segment) sections)) (λ segment. ranked_low (filter (is_in segment) sections) (filtered IsLow (is_in segment) sections all)) (segments_of sections)

align_low : (sections : List OutSection) → AllByRecursion IsLow sections → greatest_align sections ≤ 14
unfolding greatest_align
align_low [] all = omega arith
align_low (section ∷ sections) all = let here : section.align ≤ 14 = all.0 in let rest : greatest_align sections ≤ 14 = align_low sections all.1 in omega (arith, here, rest)

led_by_low : (align : ℕ) (sections : List OutSection) → align ≤ 14 → AllByRecursion IsLow sections → AllByRecursion IsLow (led_by align sections)
led_by_low align [] low all = tt
led_by_low align (section ∷ sections) low all = by (is_thread_local section) refl (led_by_low align sections low all.1)
  where
    by : (b : Bool) → is_thread_local section ≡ b → AllByRecursion IsLow (led_by align sections) → AllByRecursion IsLow (led_by align (section ∷ sections))
    by true e rest = rw e (low, all.1)
    by false e rest = rw e (all.0, rest)

led_low : (sections : List OutSection) → AllByRecursion IsLow sections → AllByRecursion IsLow (led sections)
unfolding led thread_local
led_low sections all = led_by_low (greatest_align (thread_local sections)) sections (align_low (thread_local sections) (filtered IsLow is_thread_local sections all)) all

pub all_low : (files : List LoadedFile) (atoms : List Atom) → All (λ (atom : Atom). atom.align ≤ 14) atoms → All (λ (section : OutSection). section.align ≤ 14) (out_sections files atoms)
unfolding out_sections
all_low files atoms all =
    All-from_recursion IsLow (led (in_order (sections_of (rows files atoms))))
    (led_low (in_order (sections_of (rows files atoms))) (order_low (sections_of (rows files atoms)) (sections_low (rows files atoms) (rows_low files atoms (recursion_from_All IsLowAtom atoms all)))))

pub all_steps : (files files' : List LoadedFile) (atoms atoms' : List Atom) (gathered ordered led_ones all : List OutSection) → files' ≡ files → atoms' ≡ atoms → gathered ≡ sections_of (rows files' atoms') → ordered ≡ in_order gathered → led_ones ≡ led ordered → all ≡ led_ones → all ≡ out_sections files atoms
unfolding out_sections
all_steps files files' atoms atoms' gathered ordered led_ones all ef ea eg eo el e =
    e ∙ el ∙ ap led (eo ∙ ap in_order (eg ∙ ap (λ (fs : List LoadedFile). sections_of (rows fs atoms')) ef ∙ ap (λ (xs : List Atom). sections_of (rows files xs)) ea))
