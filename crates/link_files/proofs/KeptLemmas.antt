-- The atoms of whole files that are kept rise, and none is aligned to more than a page.
use Rattle.std.proofs.Common.{◌≡◌, ℕ, ◌+◌, ◌<◌, ◌≤◌, ◌==◌, Bool, true, false, List, [], ◌∷◌, ◌++◌, length, map, max, Option, Some, None, inl, inr, refl, sym, ap, subst, ◌∙◌, arith, if◌then◌else◌}
use Rattle.std.specs.Prelude.{All}
use Rattle.std.specs.List.{AllByRecursion, AllPairs, enumerate_from, filter, find, flat_map, fold}
use Rattle.std.specs.List.Sorted.{IsStrictlySortedBy}
use Rattle.std.specs.Option.{option_map_or}
use Rattle.std.specs.Ordering.{is_eq, nat_cmp, on}
use Rattle.std.specs.Str.{bytes_eq}
use Rattle.std.specs.declared.cmp.Ordering.TheVariants.{Less}
use Rattle.std.proofs.Math.Nat.{max-le}
use Rattle.std.proofs.lemmas.Bool.{and_parts, cases_Bool, eqb-true}
use Rattle.std.proofs.lemmas.List.Elements.{recursion_from_All}
use Rattle.list_lemmas.proofs.Members.{In, all_from_in, all_in, all_map, find_some, from_filter, from_filter_map, from_map, from_flat, in_either}
use Rattle.list_lemmas.proofs.Ties.{same_number, tied_first, tied_second}
use Rattle.command_line.specs.declared.command.Command.{Command}
use Rattle.input_files.proofs.EachLemmas.{all_from, all_has}
use Rattle.input_files.specs.Files.{IsLow}
use Rattle.lib_bind.specs.declared.library.LibraryGraph.{LibraryGraph}
use Rattle.mark_core.specs.Kept.{has, same_atom}
use Rattle.mo_types.specs.declared.atom.Atom.{Atom}
use Rattle.mo_types.specs.declared.key.AtomKey.{AtomKey}
use Rattle.mo_types.specs.declared.key.FileId.{FileId}
use Rattle.mo_types.specs.declared.key.TheConstants.{COMMON_SECTION}
use Rattle.mo_types.specs.declared.loaded.Loaded.{Loaded}
use Rattle.mo_types.specs.declared.loaded.LoadedFile.{LoadedFile}
use Rattle.mo_types.specs.declared.object.Object.{Object}
use Rattle.mo_types.specs.declared.object.Section.{Section}
use Rattle.mo_types.specs.declared.object.Symbol.{Symbol}
use Rattle.mo_types.specs.declared.object.SymbolKind.{SymbolKind}
use Rattle.mo_types.specs.declared.object.SymbolKind.TheVariants.{Common}
use Rattle.mo_types.specs.Atoms.{atoms_from, atoms_of, section_atoms}
use Rattle.mo_types.specs.Candidates.{is_candidate, is_common}
use Rattle.mo_types.specs.Keys.{compare_files, compare_keys}
use Rattle.mo_types.specs.Loaded.{IsBefore, IsWholeLoaded}
use Rattle.atom_cut.specs.Laws as cut_laws
use Rattle.atom_cut.proofs.KeyLemmas.{StandsFrom, atoms_rise, atoms_stand}
use Rattle.atom_index.proofs.Keys.{is_equal}
use Rattle.image_make.specs.Atoms.{AreLow, AreRising, common_at, common_of, commons_in, is_common_of, kept_as, kept_atoms, kept_in, literal_align, raised}
use Rattle.image_make.specs.Made.{kept_of}
use Rattle.image_make.specs.declared.kept.KeptAtom.{KeptAtom}
use Rattle.image_make.proofs.CommonLemmas.{common_key, commons_are, commons_rise}
use Rattle.literal_merge.specs.Representatives.{Literal, is_same, literals, literals_in, representative_among, representative_of, representatives_of}
use Rattle.literal_merge.specs.Representatives as merged
use Rattle.literal_merge.specs.declared.representative.Representative.{Representative}
use Rattle.literal_merge.proofs.RepresentativeLemmas.{atoms_of_file, keys_before, literal_of, pairs_head, pairs_tail}
use Rattle.reader_laws.specs.Facts.{IsLowCommon}
use Rattle.slot_plan.specs.declared.list.Slots.{Slots}
use Rattle.symbol_winners.specs.Found.{FileCandidate, found, found_at, found_for, found_in}
use Rattle.symbol_winners.specs.Places.{place_of}
use Rattle.symbol_winners.specs.SymbolTable.{IsSymbolTable, SymbolTable}
use Rattle.symbol_winners.specs.Winners.{align_in, greatest_align, winner_from, winner_of, winning}
use Rattle.symbol_winners.specs.declared.winner.Winner.{Winner}
use Rattle.link_files.specs.Linked.{AreOrdered, making}
use Rattle.link_files.proofs.Lists.{from_mapped, from_then, from_when, in_slice}
use Rattle.link_files.proofs.Lists as lists
use Rattle.link_files.proofs.WinnerPlaces.{own_winner}

-- a file whose pieces are those of its object
abbrev pub IsCut : LoadedFile → Type 0
IsCut file = file.atoms ≡ atoms_of file.object file.id

abbrev HasFewSections : LoadedFile → Type 0
HasFewSections file = length file.object.sections ≤ 255

abbrev atom_key : Atom → AtomKey
atom_key atom = atom.key

abbrev by_key : KeptAtom → AtomKey
by_key one = one.atom.key

-- ---- lists by rising keys

sifted : (t : Atom → Bool) (atoms : List Atom) → IsStrictlySortedBy (on atom_key compare_keys) atoms → IsStrictlySortedBy (on atom_key compare_keys) (filter t atoms)
unfolding IsStrictlySortedBy
sifted t [] rising = tt
sifted t (atom ∷ atoms) rising = elim (cases_Bool (t atom)) [
  | inl here ↦ rw here (all_from_in (λ (b : Atom). compare_keys atom.key b.key ≡ Less) (filter t atoms) (λ b h. all_in (λ (x : Atom). compare_keys atom.key x.key ≡ Less) atoms b rising.0 (from_filter t atoms b h).0), sifted t atoms rising.1)
  | inr away ↦ rw away (sifted t atoms rising.1)
]

joined : {X : Type 0} (key : X → AtomKey) (xs ys : List X) → IsStrictlySortedBy (on key compare_keys) xs → IsStrictlySortedBy (on key compare_keys) ys → ((a b : X) → In a xs → In b ys → compare_keys (key a) (key b) ≡ Less) → IsStrictlySortedBy (on key compare_keys) (xs ++ ys)
unfolding IsStrictlySortedBy
joined key [] ys first second across = second
joined {X = X} key (x ∷ xs) ys first second across = (
  all_from_in (λ (b : X). compare_keys (key x) (key b) ≡ Less) (xs ++ ys) after,
  joined key xs ys first.1 second (λ a b h k. across a b (inr h) k),
)
  where
    after : (b : X) → In b (xs ++ ys) → compare_keys (key x) (key b) ≡ Less
    after b h = elim (in_either xs ys b h) [
      | inl here ↦ all_in (λ (c : X). compare_keys (key x) (key c) ≡ Less) xs b first.0 here
      | inr later ↦ across x b (inl refl) later
    ]

-- atoms are placed with their keys
placed_rise : (literals : List Representative) (at : ℕ) (atoms : List Atom) → IsStrictlySortedBy (on atom_key compare_keys) atoms → IsStrictlySortedBy (on by_key compare_keys) (map (kept_as literals at) atoms)
unfolding IsStrictlySortedBy raised
placed_rise literals at [] rising = tt
placed_rise literals at (atom ∷ atoms) rising = (
  all_map (kept_as literals at) (λ (one : KeptAtom). compare_keys atom.key one.atom.key ≡ Less) atoms rising.0,
  placed_rise literals at atoms rising.1,
)

-- ---- the atoms of one file

pieces_rise : (file : FileId) (atoms : List Atom) → AllPairs (λ a b. cut_laws.IsBefore a.key b.key) atoms → ((atom : Atom) → In atom atoms → atom.key.file ≡ file) → IsStrictlySortedBy (on atom_key compare_keys) atoms
unfolding IsStrictlySortedBy
pieces_rise file [] pairs own = tt
pieces_rise file (atom ∷ atoms) pairs own = (
  all_from_in (λ (b : Atom). compare_keys atom.key b.key ≡ Less) atoms
      (λ b h. keys_before atom.key b.key (own atom (inl refl) ∙ sym (own b (inr h))) (pairs_head (λ (a : Atom) (c : Atom). cut_laws.IsBefore a.key c.key) atom atoms b pairs h)),
  pieces_rise file atoms (pairs_tail (λ (a : Atom) (b : Atom). cut_laws.IsBefore a.key b.key) atom atoms pairs) (λ a h. own a (inr h)),
)

-- the sections of pieces are those of the object
low_section : (object : Object) (file : FileId) (number : ℕ) (sections : List Section) (atom : Atom) → In atom (atoms_from object file number sections) → atom.key.section < number + length sections
low_section object file number [] atom h = absurd h
low_section object file number (section ∷ sections) atom h = elim (in_either (section_atoms object file number section) (atoms_from object file (number + 1) sections) atom h) [
  | inl here ↦
      let stands = all_in (StandsFrom number 0) (section_atoms object file number section) atom (atoms_stand object file number section) here in
      let same : atom.key.section ≡ number = stands.section in
      omega (arith, same)
  | inr later ↦ let rest : atom.key.section < number + 1 + length sections = low_section object file (number + 1) sections atom later in omega (arith, rest)
]

low_piece : (file : LoadedFile) (atom : Atom) → IsCut file → HasFewSections file → In atom file.atoms → atom.key.section < COMMON_SECTION
unfolding atoms_of
low_piece file atom cut few h =
    let below : atom.key.section < 1 + length file.object.sections = low_section file.object file.id 1 file.object.sections atom (subst (λ (xs : List Atom). In atom xs) cut h) in
    let number : COMMON_SECTION ≡ 256 = refl in
    omega (arith, below, few, number)

own_piece : (file : LoadedFile) (atom : Atom) → IsCut file → In atom file.atoms → atom.key.file ≡ file.id
own_piece file atom cut h = atoms_of_file file.object file.id atom (subst (λ (xs : List Atom). In atom xs) cut h)

same_fields : (a b c d : ℕ) → a ≡ b → c ≡ d → ◌≡◌ {A = FileId} (record { position = a; member = c }) (record { position = b; member = d })
same_fields a b c d e f = rw (e, f) refl

pub same_file : (a b : FileId) → is_eq (compare_files a b) ≡ true → a ≡ b
same_file a b e =
    let tied = is_equal (compare_files a b) e in
    same_fields a.position b.position a.member b.member
    (same_number a.position b.position (tied_first (nat_cmp a.position b.position) (nat_cmp a.member b.member) tied))
    (same_number a.member b.member (tied_second (nat_cmp a.position b.position) (nat_cmp a.member b.member) tied))

-- the atom of a common symbol has the key of one of the file's
own_common : (winners : List Winner) (keys : List AtomKey) (id : FileId) (atom : Atom) → In atom (commons_in winners keys id) → (atom.key.file ≡ id) × (atom.key.section ≡ COMMON_SECTION)
unfolding commons_in
own_common winners keys id atom h =
    let of = from_filter_map (common_at winners) (filter (is_common_of id) keys) atom h in
    let passed = and_parts (of.0.section == COMMON_SECTION) (is_eq (compare_files of.0.file id)) (from_filter (is_common_of id) keys of.0 of.1).1 in
    let named = common_key winners of.0 atom of.2 in (
      ap (λ (key : AtomKey). key.file) named ∙ same_file of.0.file id passed.1,
      ap (λ (key : AtomKey). key.section) named ∙ eqb-true of.0.section COMMON_SECTION passed.0,
    )

commons_in_order : (winners : List Winner) (keys : List AtomKey) (id : FileId) → IsStrictlySortedBy compare_keys keys → IsStrictlySortedBy (on atom_key compare_keys) (commons_in winners keys id)
commons_in_order winners keys id up =
    subst (λ (atoms : List Atom). IsStrictlySortedBy (on atom_key compare_keys) atoms) (commons_are winners keys id)
    (sifted (λ (atom : Atom). is_eq (compare_files atom.key.file id)) _ (commons_rise winners keys up))

-- the kept pieces of a file, and its kept common symbols
atoms_in : List Winner → List AtomKey → LoadedFile → List Atom
atoms_in winners keys file = filter (λ atom. has keys atom.key) file.atoms ++ commons_in winners keys file.id

own_atom : (winners : List Winner) (keys : List AtomKey) (file : LoadedFile) (atom : Atom) → IsCut file → In atom (atoms_in winners keys file) → atom.key.file ≡ file.id
unfolding atoms_in
own_atom winners keys file atom cut h = elim (in_either (filter (λ (a : Atom). has keys a.key) file.atoms) (commons_in winners keys file.id) atom h) [
  | inl piece ↦ own_piece file atom cut (from_filter (λ (a : Atom). has keys a.key) file.atoms atom piece).0
  | inr common ↦ (own_common winners keys file.id atom common).0
]

file_in_order : (winners : List Winner) (keys : List AtomKey) (file : LoadedFile) → IsCut file → HasFewSections file → IsStrictlySortedBy compare_keys keys → IsStrictlySortedBy (on atom_key compare_keys) (atoms_in winners keys file)
unfolding atoms_in
file_in_order winners keys file cut few up =
    joined atom_key (filter (λ (a : Atom). has keys a.key) file.atoms) (commons_in winners keys file.id)
    (sifted (λ (a : Atom). has keys a.key) file.atoms (pieces_rise file.id file.atoms (rw cut (atoms_rise file.object file.id)) (λ atom h. own_piece file atom cut h)))
    (commons_in_order winners keys file.id up)
    across
  where
    across : (a b : Atom) → In a (filter (λ (x : Atom). has keys x.key) file.atoms) → In b (commons_in winners keys file.id) → compare_keys a.key b.key ≡ Less
    across a b h k =
        let piece = (from_filter (λ (x : Atom). has keys x.key) file.atoms a h).0 in
        let common = own_common winners keys file.id b k in
        let low = low_piece file a cut few piece in
        let section : b.key.section ≡ COMMON_SECTION = common.1 in
        keys_before a.key b.key (own_piece file a cut piece ∙ sym common.0) (inl (omega (arith, low, section)))

-- ---- those of all files

kept_own : (literals : List Representative) (winners : List Winner) (keys : List AtomKey) (at : ℕ) (file : LoadedFile) → IsCut file → (one : KeptAtom) → In one (kept_in literals winners keys (at, file)) → one.atom.key.file ≡ file.id
unfolding kept_in raised atoms_in
kept_own literals winners keys at file cut one h =
    let m = from_map (kept_as literals at) (atoms_in winners keys file) one h in
    ap (λ (k : KeptAtom). k.atom.key.file) (sym m.2) ∙ own_atom winners keys file m.0 cut m.1

later_file : (literals : List Representative) (winners : List Winner) (keys : List AtomKey) (at : ℕ) (files : List LoadedFile) → AllByRecursion IsCut files → (one : KeptAtom) → In one (flat_map (kept_in literals winners keys) (enumerate_from at files)) → (file : LoadedFile) × In file files × (one.atom.key.file ≡ file.id)
later_file literals winners keys at [] cut one h = absurd h
later_file literals winners keys at (file ∷ files) cut one h = elim (in_either (kept_in literals winners keys (at, file)) (flat_map (kept_in literals winners keys) (enumerate_from (at + 1) files)) one h) [
  | inl here ↦ (file, inl refl, kept_own literals winners keys at file cut.0 one here)
  | inr later ↦ let m = later_file literals winners keys (at + 1) files cut.1 one later in (m.0, inr m.1, m.2)
]

files_in_order : (literals : List Representative) (winners : List Winner) (keys : List AtomKey) (at : ℕ) (files : List LoadedFile) → AllPairs (λ a b. IsBefore a.id b.id) files → AllByRecursion IsCut files → AllByRecursion HasFewSections files → IsStrictlySortedBy compare_keys keys
    → IsStrictlySortedBy (on by_key compare_keys) (flat_map (kept_in literals winners keys) (enumerate_from at files))
unfolding IsStrictlySortedBy kept_in atoms_in
files_in_order literals winners keys at [] pairs cut few up = tt
files_in_order literals winners keys at (file ∷ files) pairs cut few up =
    joined by_key (kept_in literals winners keys (at, file)) (flat_map (kept_in literals winners keys) (enumerate_from (at + 1) files))
    (placed_rise literals at (atoms_in winners keys file) (file_in_order winners keys file cut.0 few.0 up))
    (files_in_order literals winners keys (at + 1) files (pairs_tail (λ (a : LoadedFile) (b : LoadedFile). IsBefore a.id b.id) file files pairs) cut.1 few.1 up)
    across
  where
    across : (a b : KeptAtom) → In a (kept_in literals winners keys (at, file)) → In b (flat_map (kept_in literals winners keys) (enumerate_from (at + 1) files)) → compare_keys a.atom.key b.atom.key ≡ Less
    across a b h k =
        let m = later_file literals winners keys (at + 1) files cut.1 b k in
        let before : compare_files file.id m.0.id ≡ Less = pairs_head (λ (x : LoadedFile) (y : LoadedFile). IsBefore x.id y.id) file files m.0 pairs m.1 in
        let first : compare_files a.atom.key.file b.atom.key.file ≡ Less = rw (kept_own literals winners keys at file cut.0 a h, m.2) before in
        rw first refl

pub kept_rise : (literals : List Representative) (winners : List Winner) (keys : List AtomKey) (files : List LoadedFile) → AllPairs (λ a b. IsBefore a.id b.id) files → All IsCut files → All (λ file. length file.object.sections ≤ 255) files → IsStrictlySortedBy compare_keys keys → AreRising (kept_atoms literals winners keys files)
unfolding kept_atoms
kept_rise literals winners keys files pairs cut few up = files_in_order literals winners keys 0 files pairs (recursion_from_All IsCut files cut) (recursion_from_All HasFewSections files few) up

pub are_cut : (loaded : Loaded) → IsWholeLoaded loaded → All IsCut loaded.files
are_cut loaded whole = λ k d low. (whole.files k d low).atoms

-- ---- they are aligned to no more than a page

folded : (most : ℕ) (numbers : List ℕ) (first : ℕ) → first ≤ most → ((n : ℕ) → In n numbers → n ≤ most) → fold max first numbers ≤ most
folded most [] first low all = low
folded most (n ∷ numbers) first low all = folded most numbers (max first n) (max-le low (all n (inl refl))) (λ m h. all m (inr h))

low_atom : (files : List LoadedFile) → All IsLow files → (file : LoadedFile) → In file files → (atom : Atom) → In atom file.atoms → atom.align ≤ 14
low_atom files low file h atom k = all_has (λ (a : Atom). a.align ≤ 14) file.atoms atom (all_has IsLow files file low h).atoms k

low_literal : (files : List LoadedFile) → All IsLow files → (l : Literal) → In l (literals files) → l.align ≤ 14
unfolding literals literals_in
low_literal files low l h =
    let of = from_flat literals_in files l h in
    let m = literal_of of.0.object of.0.atoms l of.2 in
    subst (λ n. n ≤ 14) (sym m.align) (low_atom files low of.0 of.1 m.atom m.among)

low_representative : (files : List LoadedFile) → All IsLow files → (l : Literal) → In l (literals files) → (representative_of (literals files) l).align ≤ 14
unfolding representative_of representative_among merged.greatest_align
low_representative files low l h = by (filter (is_same l) (literals files)) (λ x k. (from_filter (is_same l) (literals files) x k).0)
  where
    by : (xs : List Literal) → ((x : Literal) → In x xs → In x (literals files)) → (representative_among l xs).align ≤ 14
    by [] among = low_literal files low l h
    by (first ∷ rest) among =
        folded 14 (map (λ (x : Literal). x.align) (first ∷ rest)) 0 (omega arith)
        (λ n k. let m = from_map (λ (x : Literal). x.align) (first ∷ rest) n k in subst (λ (n : ℕ). n ≤ 14) m.2 (low_literal files low m.0 (among m.0 m.1)))

low_align : (atom : Atom) (r : Representative) → atom.align ≤ 14 → r.align ≤ 14 → literal_align atom r ≤ 14
low_align atom r here other = by (same_atom r.representative atom.key)
  where
    by : (b : Bool) → (if b then r.align else atom.align) ≤ 14
    by true = other
    by false = here

low_raised : (files : List LoadedFile) → All IsLow files → (atom : Atom) → atom.align ≤ 14 → (raised (representatives_of files) atom).align ≤ 14
unfolding raised representatives_of
low_raised files low atom here = by (find (λ r. is_eq (compare_keys r.literal atom.key)) (map (representative_of (literals files)) (literals files))) refl
  where
    by : (o : Option Representative) → find (λ r. is_eq (compare_keys r.literal atom.key)) (map (representative_of (literals files)) (literals files)) ≡ o → option_map_or (literal_align atom) o atom.align ≤ 14
    by None e = here
    by (Some r) e =
        let m = from_map (representative_of (literals files)) (literals files) r (find_some (λ (x : Representative). is_eq (compare_keys x.literal atom.key)) (map (representative_of (literals files)) (literals files)) r e).0 in
        low_align atom r here (subst (λ (x : Representative). x.align ≤ 14) m.2 (low_representative files low m.0 m.1))

-- the alignment of a common symbol, and none of another one
low_kind : (kind : SymbolKind) → IsLowCommon kind → align_in kind ≤ 14
low_kind (Common align size) low = low
low_kind _ low = omega arith

low_candidate : (files : List LoadedFile) → All IsLow files → (f : FileCandidate) → In f (found files) → align_in f.symbol.kind ≤ 14
unfolding found found_in found_at
low_candidate files low f h =
    let of = from_flat found_in files f h in
    let p = from_filter_map (found_at of.0) (enumerate_from 0 of.0.object.symbols) f of.2 in
    let candidate = from_when (is_candidate of.0.object.sections p.0.1) _ f p.2 in
    let number = lists.from_numbered 0 of.0.object.symbols p.0 p.1 in
    let one : IsLow of.0 = all_has IsLow files of.0 low of.1 in
    let common : IsLowCommon p.0.1.kind = all_has (λ (symbol : Symbol). IsLowCommon symbol.kind) of.0.object.symbols p.0.1 one.commons (in_slice of.0.object.symbols number.0 p.0.1 number.2) in
    subst (λ (g : FileCandidate). align_in g.symbol.kind ≤ 14) candidate.1 (low_kind p.0.1.kind common)

low_greatest : (files : List LoadedFile) (name : List ℕ) → All IsLow files → greatest_align (found_for files name) ≤ 14
unfolding greatest_align found_for
low_greatest files name low =
    folded 14 (map (λ (f : FileCandidate). align_in f.symbol.kind) (filter (λ (f : FileCandidate). bytes_eq name f.symbol.name) (found files))) 0 (omega arith)
    (λ n h.
    let m = from_map (λ (f : FileCandidate). align_in f.symbol.kind) (filter (λ (f : FileCandidate). bytes_eq name f.symbol.name) (found files)) n h in
    subst (λ (n : ℕ). n ≤ 14) m.2 (low_candidate files low m.0 (from_filter (λ (f : FileCandidate). bytes_eq name f.symbol.name) (found files) m.0 m.1).0))

low_winner : (command : Command) (files : List LoadedFile) (name : List ℕ) (winner : Winner) → All IsLow files → winner_of command files name ≡ Some winner → winner.align ≤ 14
unfolding winner_of winning
low_winner command files name winner low e =
    let one = from_then (winner_from command (found_for files name)) (winning files name) winner e in
    let f : FileCandidate = one.0 in
    let place = from_mapped _ (place_of f.file f.index f.symbol.kind) winner one.2 in
    subst (λ (w : Winner). w.align ≤ 14) place.2 (by (is_common f.symbol.kind))
  where
    by : (b : Bool) → (if b then greatest_align (found_for files name) else 0) ≤ 14
    by true = low_greatest files name low
    by false = omega arith

low_common : (command : Command) (files : List LoadedFile) (symbols : SymbolTable) (keys : List AtomKey) (id : FileId) (atom : Atom) → All IsLow files → IsSymbolTable command files symbols → In atom (commons_in symbols.winners keys id) → atom.align ≤ 14
unfolding commons_in common_at
low_common command files symbols keys id atom low are h =
    let of = from_filter_map (common_at symbols.winners) (filter (is_common_of id) keys) atom h in
    let won = from_mapped common_of (find (λ (w : Winner). is_eq (compare_keys w.atom of.0)) symbols.winners) atom of.2 in
    let among = (find_some (λ (w : Winner). is_eq (compare_keys w.atom of.0)) symbols.winners won.0 won.1).0 in
    subst (λ (a : Atom). a.align ≤ 14) won.2 (low_winner command files won.0.name won.0 low (own_winner command files symbols.winners won.0 are.winners among))

file_of_pair : (files : List LoadedFile) (p : ℕ × LoadedFile) → In p (enumerate_from 0 files) → In p.1 files
file_of_pair files p h = let number = lists.from_numbered 0 files p h in in_slice files number.0 p.1 number.2

low_kept : (command : Command) (files : List LoadedFile) (symbols : SymbolTable) (keys : List AtomKey) → All IsLow files → IsSymbolTable command files symbols → (one : KeptAtom) → In one (kept_atoms (representatives_of files) symbols.winners keys files) → one.atom.align ≤ 14
unfolding kept_atoms kept_in
low_kept command files symbols keys low are one h =
    let of = from_flat (kept_in (representatives_of files) symbols.winners keys) (enumerate_from 0 files) one h in
    let pieces = filter (λ (atom : Atom). has keys atom.key) of.0.1.atoms in
    let commons = commons_in symbols.winners keys of.0.1.id in
    let m = from_map (kept_as (representatives_of files) of.0.0) (pieces ++ commons) one of.2 in
    let own : m.0.align ≤ 14 = elim (in_either pieces commons m.0 m.1) [
      | inl piece ↦ low_atom files low of.0.1 (file_of_pair files of.0 of.1) m.0 (from_filter (λ (atom : Atom). has keys atom.key) of.0.1.atoms m.0 piece).0
      | inr common ↦ low_common command files symbols keys of.0.1.id m.0 low are common
    ] in
    subst (λ (k : KeptAtom). k.atom.align ≤ 14) m.2 (low_raised files low m.0 own)

pub kept_low : (command : Command) (files : List LoadedFile) (symbols : SymbolTable) (keys : List AtomKey) → All IsLow files → IsSymbolTable command files symbols → AreLow (kept_atoms symbols.literals symbols.winners keys files)
kept_low command files symbols keys low are =
    subst (λ (ls : List Representative). AreLow (kept_atoms ls symbols.winners keys files)) (sym are.literals)
    (all_from (λ (one : KeptAtom). one.atom.align ≤ 14) (kept_atoms (representatives_of files) symbols.winners keys files) (low_kept command files symbols keys low are))

-- ---- those of what an image is made of

pub making_rises : (command : Command) (libs : LibraryGraph) (files : List LoadedFile) (symbols : SymbolTable) (keys : List AtomKey) (slots : Slots) → AreOrdered files → All IsCut files → All IsLow files → IsStrictlySortedBy compare_keys keys → AreRising (kept_of (making command libs files symbols keys slots))
unfolding making
making_rises command libs files symbols keys slots ordered cut low up = kept_rise symbols.literals symbols.winners keys files ordered cut (λ k d within. (low k d within).sections) up

pub making_low : (command : Command) (libs : LibraryGraph) (files : List LoadedFile) (symbols : SymbolTable) (keys : List AtomKey) (slots : Slots) → All IsLow files → IsSymbolTable command files symbols → AreLow (kept_of (making command libs files symbols keys slots))
unfolding making
making_low command libs files symbols keys slots low are = kept_low command files symbols keys low are
