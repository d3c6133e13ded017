-- Each kept atom, a piece of a file or that of a common symbol, has its place in the image.
use Rattle.std.proofs.Common.{◌≡◌, ℕ, ◌≤◌, ◌==◌, ◌⊎◌, inl, inr, Bool, true, false, List, ◌++◌, Some, None, Contains, refl, sym, ap, ◌∙◌, subst}
use Rattle.std.specs.Prelude.{slice_get}
use Rattle.std.specs.List.{enumerate_from, filter}
use Rattle.std.specs.Ordering.{is_eq}
use Rattle.list_lemmas.proofs.Members.{Contains_from_in, In, any_from_in, in_filter, in_flat, in_from_Contains, in_left, in_map, in_right}
use Rattle.mo_types.specs.Keys.{compare_keys}
use Rattle.mo_types.specs.Loaded.{IsWholeFile}
use Rattle.mo_types.specs.RelocationRules.{section_numbered}
use Rattle.mo_types.specs.declared.atom.Atom.{Atom}
use Rattle.mo_types.specs.declared.key.AtomKey.{AtomKey}
use Rattle.mo_types.specs.declared.key.TheConstants.{COMMON_SECTION}
use Rattle.mo_types.specs.declared.loaded.LoadedFile.{LoadedFile}
use Rattle.mo_types.specs.declared.object.Section.{Section}
use Rattle.mark_core.specs.Kept.{has}
use Rattle.literal_merge.specs.Representatives.{Literal, literals, representatives_of}
use Rattle.literal_merge.specs.declared.representative.Representative.{Representative}
use Rattle.sect_list.specs.OutSections.{Home, common_home, home_in, home_of}
use Rattle.sect_place.specs.Addresses.{address_in}
use Rattle.sect_place.specs.declared.layout.Layout.{Layout}
use Rattle.symbol_winners.specs.Winners.{AreWinners}
use Rattle.image_make.specs.Atoms.{commons_in, kept_as, kept_atoms, kept_in, raised}
use Rattle.image_make.specs.Made.{IsLaid, ImageInputs, kept_of, rows_of}
use Rattle.image_make.specs.declared.kept.KeptAtom.{KeptAtom}
use Rattle.image_laws.specs.Means.{AreRising, IsWritten, IsZerofill}
use Rattle.image_laws.proofs.Complete.{IsSeated, none_left_out, seated}
use Rattle.image_laws.proofs.Loading.{from_all}
use Rattle.image_laws.proofs.Rowed.{row_in}
use Rattle.link_files.specs.Linked.{AreOrdered}
use Rattle.link_files.proofs.Cuts.{is_piece}
use Rattle.loader_laws.specs.LinkOf.{IsCommon, IsKeptAtom}
use Rattle.loader_laws.specs.Tellings.{AreWhole}
use Rattle.loader_laws.proofs.Commons.{common_kept, no_section}
use Rattle.loader_laws.proofs.Finding.{at_in, atom_file, cut_from, file_found, in_all, key_itself, one_atom}
use Rattle.loader_laws.proofs.Raising.{literal_from, raised_above}

-- ---- what an image is made of

-- it is made of whole files in order, with what stands for their literals and the winners of their names
pub record IsOfFiles (m : ImageInputs) : Type 0 where
  pub ordered : AreOrdered m.files
  pub whole : AreWhole m.files
  pub literals : m.literals ≡ representatives_of m.files
  pub winners : AreWinners m.command m.files m.winners

-- ---- a kept atom among those of the image

-- a kept atom of the file at a place, as it is placed
abbrev pub one_of : ImageInputs → ℕ → Atom → KeptAtom
one_of m at atom = kept_as m.literals at atom

-- A kept atom of a file: the image keeps it, with at least its alignment, and it has a section of the image. It is a piece of
-- the file, or has no section there.
pub record IsOne (m : ImageInputs) (file : LoadedFile) (atom : Atom) : Type 0 where
  pub at : ℕ
  pub there : slice_get m.files at ≡ Some file
  pub among : In file m.files
  pub keeps : In (one_of m at atom) (kept_of m)
  pub above : atom.align ≤ (one_of m at atom).atom.align
  pub home : Home
  pub goes : Some home ≡ home_of m.files atom.key.file atom.key.section
  pub from : In atom file.atoms ⊎ (section_numbered file.object.sections atom.key.section ≡ None)

pub kept_key : (m : ImageInputs) (at : ℕ) (atom : Atom) → (one_of m at atom).atom.key ≡ atom.key
unfolding raised
kept_key m at atom = refl

pub kept_size : (m : ImageInputs) (at : ℕ) (atom : Atom) → (one_of m at atom).atom.size ≡ atom.size
unfolding raised
kept_size m at atom = refl

-- a key among the kept ones
pub has_key : (keys : List AtomKey) (key : AtomKey) → In key keys → has keys key ≡ true
has_key keys key h = any_from_in (λ (other : AtomKey). is_eq (compare_keys other key)) keys key h (key_itself key)

-- ---- a piece

piece_home : (files : List LoadedFile) (file : LoadedFile) (key : AtomKey) (section : Section) → AreOrdered files → In file files → file.id ≡ key.file → section_numbered file.object.sections key.section ≡ Some section → (home : Home) × (Some home ≡ home_of files key.file key.section)
unfolding home_of
piece_home files file key section ordered h same numbered = by (key.section == COMMON_SECTION) refl
  where
    by : (b : Bool) → (key.section == COMMON_SECTION) ≡ b → (home : Home) × (Some home ≡ home_of files key.file key.section)
    by true e = (common_home, rw e refl)
    by false e = (home_in section, rw (e, file_found files file key.file ordered h same, numbered) refl)

piece_above : (files : List LoadedFile) (file : LoadedFile) (atom : Atom) → AreOrdered files → AreWhole files → In file files → In atom file.atoms → atom.align ≤ (raised (representatives_of files) atom).align
piece_above files file atom ordered whole h piece = raised_above files atom own
  where
    own : (l : Literal) → In l (literals files) → l.key ≡ atom.key → l.align ≡ atom.align
    own l there key =
        let one = literal_from files l there in
        one.align ∙ ap (λ (a : Atom). a.align) (one_atom files one.file file one.atom atom ordered whole one.among h one.of_file piece (sym one.key ∙ key))

pub piece_one : (m : ImageInputs) (file : LoadedFile) (atom : Atom) → IsOfFiles m → In file m.files → In atom file.atoms → has m.keys atom.key ≡ true → IsOne m file atom
unfolding kept_atoms kept_in
piece_one m file atom of among piece kept =
    let place = at_in m.files file among in
    let whole = from_all IsWholeFile m.files file of.whole among in
    let part = is_piece file.object file.id atom whole.object (cut_from file atom whole piece) in
    let home = piece_home m.files file atom.key part.section of.ordered among (sym (atom_file file atom whole piece)) part.numbered in
    let pieces : List Atom = filter (λ (a : Atom). has m.keys a.key) file.atoms in
    let commons : List Atom = commons_in m.winners m.keys file.id in
    record {
      at = place.0;
      there = place.1;
      among = among;
      keeps = in_flat (kept_in m.literals m.winners m.keys) (enumerate_from 0 m.files) (place.0, file) (one_of m place.0 atom) (in_all m.files place.0 file place.1)
          (in_map (kept_as m.literals place.0) (pieces ++ commons) atom (in_left pieces commons atom (in_filter (λ (a : Atom). has m.keys a.key) file.atoms atom piece kept)));
      above = subst (λ (rs : List Representative). atom.align ≤ (raised rs atom).align) (sym of.literals) (piece_above m.files file atom of.ordered of.whole among piece);
      home = home.0;
      goes = home.1;
      from = inl piece;
    }

-- ---- the atom of a common symbol

common_above : (files : List LoadedFile) (atom : Atom) → AreWhole files → atom.key.section ≡ COMMON_SECTION → atom.align ≤ (raised (representatives_of files) atom).align
common_above files atom whole common = raised_above files atom own
  where
    own : (l : Literal) → In l (literals files) → l.key ≡ atom.key → l.align ≡ atom.align
    own l there key =
        let one = literal_from files l there in
        let file = from_all IsWholeFile files one.file whole one.among in
        let part = is_piece one.file.object one.file.id one.atom file.object (cut_from one.file one.atom file one.of_file) in
        let number : one.atom.key.section ≡ COMMON_SECTION = ap (λ (k : AtomKey). k.section) (sym one.key ∙ key) ∙ common in
        let clash : Some part.section ≡ None = sym part.numbered ∙ no_section one.file one.atom.key.section file.object number in
        absurd cc

common_goes : (files : List LoadedFile) (key : AtomKey) → key.section ≡ COMMON_SECTION → Some common_home ≡ home_of files key.file key.section
unfolding home_of
common_goes files key common = rw common refl

pub common_one : (m : ImageInputs) (file : LoadedFile) (atom : Atom) → IsOfFiles m → In file m.files → IsCommon m.command m.files file atom → In atom.key m.keys → IsOne m file atom
unfolding kept_atoms kept_in
common_one m file atom of among is kept =
    let place = at_in m.files file among in
    let whole = from_all IsWholeFile m.files file of.whole among in
    let number : atom.key.section ≡ COMMON_SECTION = ap (λ (a : Atom). a.key.section) is.is ∙ is.common in
    let pieces : List Atom = filter (λ (a : Atom). has m.keys a.key) file.atoms in
    let commons : List Atom = commons_in m.winners m.keys file.id in
    record {
      at = place.0;
      there = place.1;
      among = among;
      keeps = in_flat (kept_in m.literals m.winners m.keys) (enumerate_from 0 m.files) (place.0, file) (one_of m place.0 atom) (in_all m.files place.0 file place.1)
          (in_map (kept_as m.literals place.0) (pieces ++ commons) atom (in_right pieces commons atom (common_kept m.command m.files m.winners m.keys file atom of.winners of.ordered of.whole is kept)));
      above = subst (λ (rs : List Representative). atom.align ≤ (raised rs atom).align) (sym of.literals) (common_above m.files atom of.whole number);
      home = common_home;
      goes = common_goes m.files atom.key number;
      from = inr (no_section file atom.key.section whole.object number);
    }

pub kept_one : (m : ImageInputs) (file : LoadedFile) (atom : Atom) → IsOfFiles m → IsKeptAtom m.command m.files m.keys file atom → IsOne m file atom
kept_one m file atom of kept = by kept.of_file
  where
    among : In file m.files
    among = in_from_Contains m.files file kept.loaded

    key : In atom.key m.keys
    key = in_from_Contains m.keys atom.key kept.kept

    by : Contains file.atoms atom ⊎ IsCommon m.command m.files file atom → IsOne m file atom
    by (inl piece) = piece_one m file atom of among (in_from_Contains file.atoms atom piece) (has_key m.keys atom.key key)
    by (inr common) = common_one m file atom of among common key

-- ---- its place

-- a kept atom with its section and its address
pub record IsSeat (m : ImageInputs) (layout : Layout) (one : KeptAtom) : Type 0 where
  pub seated : IsSeated m layout one.atom.key
  pub address : ℕ
  pub stands : IsWritten m layout one address ⊎ IsZerofill m layout one address

pub seat_of : (m : ImageInputs) (layout : Layout) (file : LoadedFile) (atom : Atom) → AreRising m → IsLaid m layout → (one : IsOne m file atom) → IsSeat m layout (one_of m one.at atom)
seat_of m layout file atom rising laid one =
    let kept : KeptAtom = one_of m one.at atom in
    let keeps = Contains_from_in (kept_of m) kept one.keeps in
    let goes : Some one.home ≡ home_of m.files kept.atom.key.file kept.atom.key.section = one.goes ∙ ap (λ (k : AtomKey). home_of m.files k.file k.section) (sym (kept_key m one.at atom)) in
    let stood = none_left_out m layout kept one.home rising laid keeps goes in
    record { seated = seated m layout kept one.home rising laid keeps goes; address = stood.0; stands = stood.1 }

written_address : (m : ImageInputs) (layout : Layout) (one : KeptAtom) (address : ℕ) → AreRising m → IsLaid m layout → IsWritten m layout one address → address_in layout.placed one.atom.key ≡ Some address
written_address m layout one address rising laid written =
    let row = row_in m layout written.row rising laid (in_from_Contains (rows_of m layout) written.row written.of_rows) in
    ap (address_in layout.placed) (ap (λ (a : Atom). a.key) (sym written.atom)) ∙ row.stood ∙ ap Some written.stands

pub seat_address : (m : ImageInputs) (layout : Layout) (one : KeptAtom) → AreRising m → IsLaid m layout → (seat : IsSeat m layout one) → address_in layout.placed one.atom.key ≡ Some seat.address
seat_address m layout one rising laid seat = by seat.stands
  where
    by : IsWritten m layout one seat.address ⊎ IsZerofill m layout one seat.address → address_in layout.placed one.atom.key ≡ Some seat.address
    by (inl written) = written_address m layout one seat.address rising laid written
    by (inr zero) = zero.stands
