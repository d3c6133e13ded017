-- How atoms are gathered into sections, one by one.
use Rattle.std.proofs.Common.{◌≡◌, ℕ, ◌+◌, ◌<◌, ◌≤◌, Bool, true, not, max, bit_or, List, [], ◌∷◌, ◌++◌, length, get_or, set, take, map, slice_get, Option, Some, None, refl, sym, ap, subst, ◌∙◌, if◌then◌else◌, arith}
use Rattle.std.specs.List.{filter, filter_map, fold, list_any, IsDistinct}
use Rattle.std.proofs.lemmas.List.{append-nil, map-append, length-map, take_more, take_all}
use Rattle.std.proofs.lemmas.List.Elements.{filter_map-append}
use Rattle.std.proofs.lemmas.List.Sums.{fold_push}
use Rattle.indexmap.specs.IndexSet.{insert_all, insert_key}
use Rattle.mo_types.specs.Destination.{Destination}
use Rattle.mo_types.specs.declared.atom.Atom.{Atom}
use Rattle.mo_types.specs.declared.key.AtomKey.{AtomKey}
use Rattle.mo_types.specs.declared.loaded.LoadedFile.{LoadedFile}
use Rattle.mo_types.specs.declared.out_section.OutSection.{OutSection}
use Rattle.sect_list.specs.OutSections.{Home, Row, rows, row_of, home_of, common_home, same_destination, destinations, going_to, section_with, sections_of}
use Rattle.sect_list.specs.inner.Gathered.{AreGathered, with_atom}
use Rattle.sect_list.specs.inner.Destinations.{SameFields, fields_from, destinations_equal}
use Rattle.sect_list.proofs.Buckets.{opens, adds, within}
use Rattle.sect_list.proofs.Homes.{home_common}

abbrev dest : List ℕ → List ℕ → ℕ → Destination
dest segment name kind = record { segment = segment; name = name; kind = kind }

same_dest : (s n s' n' : List ℕ) (k k' : ℕ) → s ≡ s' → n ≡ n' → k ≡ k' → dest s n k ≡ dest s' n' k'
same_dest s n s' n' k k' e f g = rw (e, f, g) refl

pub one_dest : (a b : Destination) → SameFields a b → a ≡ b
one_dest a b h = same_dest a.segment a.name b.segment b.name a.kind b.kind h.segment h.name h.kind

pub equal : (a b : Destination) → (same_destination a b ≡ true → a ≡ b) × (a ≡ b → same_destination a b ≡ true)
equal a b = (λ e. one_dest a b (fields_from a b e), λ e. subst (λ (q : Destination). same_destination a q ≡ true) e (destinations_equal.refl a))

-- ---- a section with an atom more

abbrev made : Destination → ℕ → ℕ → List AtomKey → OutSection
made to flags align atoms = record { segment = to.segment; name = to.name; kind = to.kind; flags = flags; align = align; atoms = atoms }

same_section : (to : Destination) (f f' a a' : ℕ) (ks ks' : List AtomKey) → f ≡ f' → a ≡ a' → ks ≡ ks' → made to f a ks ≡ made to f' a' ks'
same_section to f f' a a' ks ks' e g h = rw (e, g, h) refl

abbrev brought : Row → ℕ
brought row = row.home.attributes

abbrev align_of : Row → ℕ
align_of row = row.atom.align

abbrev key_of : Row → AtomKey
key_of row = row.atom.key

grown : (to : Destination) (rows : List Row) (row : Row) → with_atom (section_with to rows) row.atom row.home.attributes ≡ section_with to (rows ++ row ∷ [])
unfolding section_with
grown to rows row =
    same_section to
    (bit_or (fold bit_or to.kind (map brought rows)) (brought row)) (fold bit_or to.kind (map brought (rows ++ row ∷ [])))
    (max (fold max 0 (map align_of rows)) (align_of row)) (fold max 0 (map align_of (rows ++ row ∷ [])))
    (map key_of rows ++ key_of row ∷ []) (map key_of (rows ++ row ∷ []))
    (sym (ap (λ (ns : List ℕ). fold bit_or to.kind ns) (map-append brought rows (row ∷ [])) ∙ fold_push bit_or to.kind (map brought rows) (brought row)))
    (sym (ap (λ (ns : List ℕ). fold max 0 ns) (map-append align_of rows (row ∷ [])) ∙ fold_push max 0 (map align_of rows) (align_of row)))
    (sym (map-append key_of rows (row ∷ [])))

-- ---- a row more

abbrev to_of : Row → Destination
to_of row = row.home.to

abbrev all_of : List Row → List Destination → List OutSection
all_of rows keys = map (λ (to : Destination). section_with to (filter (λ (row : Row). same_destination row.home.to to) rows)) keys

opened_all : (rows : List Row) (old new : List Destination) (before opened : List OutSection) (to : Destination) (fresh : Bool) → AreGathered rows old before → new ≡ insert_key same_destination old to → fresh ≡ not (list_any (same_destination to) old) → opened ≡ (if fresh then before ++ section_with to [] ∷ [] else before) → opened ≡ all_of rows new
unfolding destinations going_to
opened_all rows old new before opened to fresh h key absent so =
    opens same_destination equal to_of section_with [] old rows to before opened fresh h.places h.made absent so
    ∙ ap (all_of rows) (sym key)

pub row_added : (rows : List Row) (old new : List Destination) (before opened after : List OutSection) (row : Row) (at : ℕ) (k : Destination) (fresh : Bool) → AreGathered rows old before → new ≡ insert_key same_destination old row.home.to → IsDistinct same_destination new → slice_get new at ≡ Some k → same_destination row.home.to k ≡ true → fresh ≡ not (list_any (same_destination row.home.to) old) → opened ≡ (if fresh then before ++ section_with row.home.to [] ∷ [] else before) → ((d : OutSection) → after ≡ set opened at (with_atom (get_or opened at d) row.atom row.home.attributes)) → AreGathered (rows ++ row ∷ []) new after
unfolding destinations going_to
row_added rows old new before opened after row at k fresh h key distinct there is absent so done =
    let found : slice_get new at ≡ Some row.home.to = there ∙ ap Some (sym ((equal row.home.to k).0 is)) in
    let open_all : opened ≡ all_of rows new = opened_all rows old new before opened row.home.to fresh h key absent so in
    record {
      places =
          key ∙ ap (λ (ks : List Destination). insert_key same_destination ks row.home.to) h.places
          ∙ sym (fold_push (insert_key same_destination) [] (map to_of rows) row.home.to)
          ∙ ap (λ (ks : List Destination). insert_all same_destination [] ks) (sym (map-append to_of rows (row ∷ [])));
      made = adds same_destination equal to_of section_with new rows row at opened after (λ section. with_atom section row.atom row.home.attributes) (λ ys. grown row.home.to ys row) open_all distinct found done;
    }

pub row_within : (rows : List Row) (old new : List Destination) (before opened : List OutSection) (to : Destination) (at : ℕ) (k : Destination) (fresh : Bool) → AreGathered rows old before → new ≡ insert_key same_destination old to → slice_get new at ≡ Some k → fresh ≡ not (list_any (same_destination to) old) → opened ≡ (if fresh then before ++ section_with to [] ∷ [] else before) → at < length opened
row_within rows old new before opened to at k fresh h key there absent so =
    let long : length opened ≡ length new = ap length (opened_all rows old new before opened to fresh h key absent so) ∙ length-map new _ in
    let low : at < length new = within same_destination equal to_of section_with new at k there in
    omega (arith, long, low)

-- ---- the loop

-- the first atoms are gathered, and the home of the last is known
pub record IsWalked (files : List LoadedFile) (kept : List Atom) (i : ℕ) (places : List Destination) (sections : List OutSection) (last : AtomKey) (home : Option Home) : Type 0 where
  pub state : AreGathered (rows files (take i kept)) places sections
  pub known : home ≡ home_of files last.file last.section

no_rows : (files : List LoadedFile) (places : List Destination) (sections : List OutSection) → places ≡ [] → sections ≡ [] → AreGathered (rows files []) places sections
unfolding rows destinations
no_rows files places sections none empty = record { places = none; made = empty ∙ sym (ap (map _) none) }

pub walk_starts : (files : List LoadedFile) (kept : List Atom) (places : List Destination) (sections : List OutSection) (last : AtomKey) (home : Home) → places ≡ [] → sections ≡ [] → last.section ≡ 256 → home ≡ common_home → IsWalked files kept 0 places sections last (Some home)
walk_starts files kept places sections last home none empty number is = record {
  state = no_rows files places sections none empty;
  known = home_common files last.file last.section home number is;
}

-- an atom with its home
abbrev pub row_with : Atom → Home → Row
row_with atom home = record { atom = atom; home = home }

pub row_is : (files : List LoadedFile) (atom : Atom) (home : Home) → Some home ≡ home_of files atom.key.file atom.key.section → row_of files atom ≡ Some (row_with atom home)
unfolding row_of
row_is files atom home is = rw (← is) refl

row_isnt : (files : List LoadedFile) (atom : Atom) → None ≡ home_of files atom.key.file atom.key.section → row_of files atom ≡ None
unfolding row_of
row_isnt files atom is = rw (← is) refl

one_row : (files : List LoadedFile) (atom : Atom) (row : Row) → row_of files atom ≡ Some row → filter_map (row_of files) (atom ∷ []) ≡ row ∷ []
one_row files atom row is = rw is refl

one_none : (files : List LoadedFile) (atom : Atom) → row_of files atom ≡ None → filter_map (row_of files) (atom ∷ []) ≡ []
one_none files atom is = rw is refl

next_atoms : (kept : List Atom) (i : ℕ) (atom d : Atom) → i < length kept → atom ≡ get_or kept i d → take (i + 1) kept ≡ take i kept ++ atom ∷ []
next_atoms kept i atom d low is = take_more kept i d low ∙ ap (λ (a : Atom). take i kept ++ a ∷ []) (sym is)

next_rows : (files : List LoadedFile) (kept : List Atom) (i : ℕ) (atom d : Atom) → i < length kept → atom ≡ get_or kept i d → rows files (take (i + 1) kept) ≡ rows files (take i kept) ++ filter_map (row_of files) (atom ∷ [])
unfolding rows
next_rows files kept i atom d low is =
    ap (filter_map (row_of files)) (next_atoms kept i atom d low is)
    ∙ filter_map-append (row_of files) (take i kept) (atom ∷ [])

pub walk_takes : (files : List LoadedFile) (kept : List Atom) (i : ℕ) (places places' : List Destination) (sections sections' : List OutSection) (last : AtomKey) (home home' : Option Home) (atom d : Atom) (found : Home) → IsWalked files kept i places sections last home → i < length kept → atom ≡ get_or kept i d → home' ≡ home_of files atom.key.file atom.key.section → home' ≡ Some found → ((rows : List Row) → AreGathered rows places sections → AreGathered (rows ++ row_with atom found ∷ []) places' sections') → IsWalked files kept (i + 1) places' sections' atom.key home'
walk_takes files kept i places places' sections sections' last home home' atom d found walked low is known here added = record {
  state =
      subst (λ (all : List Row). AreGathered all places' sections')
      (sym (next_rows files kept i atom d low is ∙ ap (λ (more : List Row). rows files (take i kept) ++ more) (one_row files atom (row_with atom found) (row_is files atom found (sym here ∙ known)))))
      (added (rows files (take i kept)) walked.state);
  known = known;
}

pub walk_skips : (files : List LoadedFile) (kept : List Atom) (i : ℕ) (places : List Destination) (sections : List OutSection) (last : AtomKey) (home home' : Option Home) (atom d : Atom) → IsWalked files kept i places sections last home → i < length kept → atom ≡ get_or kept i d → home' ≡ home_of files atom.key.file atom.key.section → home' ≡ None → IsWalked files kept (i + 1) places sections atom.key home'
walk_skips files kept i places sections last home home' atom d walked low is known here = record {
  state =
      subst (λ (all : List Row). AreGathered all places sections)
      (sym (next_rows files kept i atom d low is ∙ ap (λ (more : List Row). rows files (take i kept) ++ more) (one_none files atom (row_isnt files atom (sym here ∙ known))) ∙ append-nil (rows files (take i kept))))
      walked.state;
  known = known;
}

pub walk_ends : (files : List LoadedFile) (kept : List Atom) (i : ℕ) (places : List Destination) (sections : List OutSection) (last : AtomKey) (home : Option Home) → IsWalked files kept i places sections last home → length kept ≤ i → sections ≡ sections_of (rows files kept)
unfolding sections_of
walk_ends files kept i places sections last home walked past =
    let all : take i kept ≡ kept = take_all i kept past in
    let state : AreGathered (rows files kept) places sections = subst (λ (atoms : List Atom). AreGathered (rows files atoms) places sections) all walked.state in
    state.made ∙ ap (map (λ (to : Destination). section_with to (going_to (rows files kept) to))) state.places
