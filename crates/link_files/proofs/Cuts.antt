-- Where an object's sections are cut there are atoms, and these are all of its atoms.
use Rattle.std.proofs.Common.{◌≡◌, ℕ, zero, suc, ◌+◌, ◌-◌, ◌<◌, ◌^◌, ◌==◌, Bool, true, false, nat_lt, List, [], ◌∷◌, Some, inl, inr, refl, sym, ap, ◌∙◌, subst, arith}
use Rattle.std.specs.Prelude.{slice_get, slice_index_or}
use Rattle.std.specs.List.{range_with_len}
use Rattle.std.proofs.lemmas.Bool.{false≢true, ltb-true, ne_eqb}
use Rattle.list_lemmas.proofs.Members.{In, in_filter, in_left, in_right}
use Rattle.mo_types.specs.Atoms.{atoms_from, atoms_of, cut_of, cuts, is_cut, piece, pieces, section_atoms}
use Rattle.mo_types.specs.RelocationRules.{section_numbered}
use Rattle.mo_types.specs.Whole.{IsWhole, IsWholeSection, is_dropped}
use Rattle.mo_types.specs.declared.atom.Atom.{Atom}
use Rattle.mo_types.specs.declared.key.AtomKey.{AtomKey}
use Rattle.mo_types.specs.declared.key.FileId.{FileId}
use Rattle.mo_types.specs.declared.object.Object.{Object}
use Rattle.mo_types.specs.declared.object.Section.{Section}
use Rattle.atom_cut.specs.Laws.{HasItsBytes}
use Rattle.atom_cut.proofs.OwnBytes.{atoms_have_bytes}
use Rattle.atom_cut.proofs.TileLemmas.{greatest_cut}
use Rattle.input_files.proofs.EachLemmas.{all_has}
use Rattle.link_files.proofs.Lists.{in_range, in_slice, no_some, some_is}

abbrev pub key_at : FileId → ℕ → ℕ → AtomKey
key_at file number offset = record { file = file; section = number; offset = offset }

-- ---- a cut begins an atom

cut_there : (object : Object) (number : ℕ) (section : Section) (at : ℕ) → is_cut object number section at ≡ true → In at (cuts object number section)
unfolding cuts is_cut
cut_there object number section zero is = inl refl
cut_there object number section (suc n) is = by (nat_lt (suc n) section.size) refl
  where
    by : (b : Bool) → nat_lt (suc n) section.size ≡ b → In (suc n) (cuts object number section)
    by true low =
        let less : suc n < section.size = ltb-true (suc n) section.size low in
        inr (in_filter (is_cut object number section) (range_with_len 1 (section.size - 1)) (suc n) (in_range 1 (section.size - 1) (suc n) (omega arith) (omega (arith, less))) is)
    by false past = let above : (suc n == 0) ≡ false = ne_eqb (suc n) 0 (λ e. omega (arith, e)) in absurd (false≢true (rw (above, past) at is))

-- an atom with a key
abbrev pub HasKey : List Atom → AtomKey → Type 0
HasKey atoms key = (atom : Atom) × In atom atoms × (atom.key ≡ key)

piece_there : (file : FileId) (number : ℕ) (section : Section) (cs : List ℕ) (at : ℕ) → In at cs → HasKey (pieces file number section cs) (key_at file number at)
unfolding piece
piece_there file number section [] at h = absurd h
piece_there file number section (c ∷ cs) at (inl e) = (piece file number section c (slice_index_or cs 0 section.size), inl refl, ap (key_at file number) e)
piece_there file number section (c ∷ cs) at (inr h) = let rest = piece_there file number section cs at h in (rest.0, inr rest.1, rest.2)

section_there : (object : Object) (file : FileId) (number : ℕ) (section : Section) (at : ℕ) → is_dropped section ≡ false → HasKey (section_atoms object file number section) (key_at file number (cut_of object number section at))
unfolding section_atoms
section_there object file number section at linked =
    rw linked (piece_there file number section (cuts object number section) (cut_of object number section at) (cut_there object number section (cut_of object number section at) (greatest_cut object number section at).passes))

numbered_there : (object : Object) (file : FileId) (number : ℕ) (sections : List Section) (k : ℕ) (section : Section) (key : AtomKey) → slice_get sections k ≡ Some section → HasKey (section_atoms object file (number + k) section) key → HasKey (atoms_from object file number sections) key
numbered_there object file number [] k section key is has = no_some section is
numbered_there object file number (first ∷ sections) zero section key is has =
    let here : number + 0 ≡ number = omega arith in
    let found : HasKey (section_atoms object file number first) key = subst (λ (s : Section). HasKey (section_atoms object file number s) key) (sym (some_is first section is)) (subst (λ (n : ℕ). HasKey (section_atoms object file n section) key) here has) in
    (found.0, in_left (section_atoms object file number first) (atoms_from object file (number + 1) sections) found.0 found.1, found.2)
numbered_there object file number (first ∷ sections) (suc k) section key is has =
    let same : number + suc k ≡ number + 1 + k = omega arith in
    let found = numbered_there object file (number + 1) sections k section key is (subst (λ (n : ℕ). HasKey (section_atoms object file n section) key) same has) in
    (found.0, in_right (section_atoms object file number first) (atoms_from object file (number + 1) sections) found.0 found.1, found.2)

-- the section of a number is that at a place
pub at_place : (sections : List Section) (number : ℕ) (section : Section) → section_numbered sections number ≡ Some section → (k : ℕ) × (1 + k ≡ number) × (slice_get sections k ≡ Some section)
at_place sections zero section is = no_some section is
at_place sections (suc k) section is =
    let same : suc k - 1 ≡ k = omega arith in
    let above : (suc k == 0) ≡ false = ne_eqb (suc k) 0 (λ e. omega (arith, e)) in
    let there : slice_get sections (suc k - 1) ≡ Some section = rw above at is in
    (k, omega arith, ap (slice_get sections) (sym same) ∙ there)

-- each offset of a linked section belongs to an atom
pub atom_there : (object : Object) (file : FileId) (number : ℕ) (section : Section) (at : ℕ) → section_numbered object.sections number ≡ Some section → is_dropped section ≡ false → HasKey (atoms_of object file) (key_at file number (cut_of object number section at))
unfolding atoms_of
atom_there object file number section at is linked =
    let place = at_place object.sections number section is in
    numbered_there object file 1 object.sections place.0 section (key_at file number (cut_of object number section at)) place.2
    (subst (λ (n : ℕ). HasKey (section_atoms object file n section) (key_at file number (cut_of object number section at))) (sym place.1) (section_there object file number section at linked))

pub record IsPiece (object : Object) (atom : Atom) : Type 0 where
  pub section : Section
  pub numbered : section_numbered object.sections atom.key.section ≡ Some section
  pub low : atom.key.offset < 2 ^ 63

pub is_piece : (object : Object) (file : FileId) (atom : Atom) → IsWhole object → In atom (atoms_of object file) → IsPiece object atom
is_piece object file atom whole h =
    let has : HasItsBytes object atom = all_has (HasItsBytes object) (atoms_of object file) atom (atoms_have_bytes object file whole) h in
    let place = at_place object.sections atom.key.section has.section has.numbered in
    let one : IsWholeSection has.section = all_has IsWholeSection object.sections has.section whole.sections (in_slice object.sections place.0 has.section place.2) in
    let within = has.within in
    let small = one.addresses in
    record { section = has.section; numbered = has.numbered; low = omega (arith, within, small) }
