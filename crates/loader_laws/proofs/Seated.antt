-- Kept atoms of files stand in memory, each byte as its object has it but for the fields of its references.
use Rattle.std.proofs.Common.{◌≡◌, ℕ, ◌+◌, ◌<◌, ◌≤◌, ◌⊎◌, inl, inr, Bool, List, [], length, take, drop, Option, Some, None, sym, ap, ◌∙◌, arith, subst, if◌then◌else◌}
use Rattle.std.specs.Prelude.{All, slice_get, unwrap_or}
use Rattle.std.specs.Option.{option_map_or}
use Rattle.std.proofs.lemmas.Bool.{cases_lt}
use Rattle.std.proofs.lemmas.Option.{slice_get-get_or, slice_get_past}
use Rattle.list_lemmas.proofs.Members.{Contains_from_in, In, from_filter_map, in_from_Contains}
use Rattle.mo_types.specs.AtomBytes.{atom_bytes}
use Rattle.mo_types.specs.Atoms.{atoms_of}
use Rattle.mo_types.specs.Loaded.{IsWholeFile}
use Rattle.mo_types.specs.RelocationRules.{section_numbered}
use Rattle.mo_types.specs.declared.atom.Atom.{Atom}
use Rattle.mo_types.specs.declared.key.AtomKey.{AtomKey}
use Rattle.mo_types.specs.declared.key.FileId.{FileId}
use Rattle.mo_types.specs.declared.loaded.LoadedFile.{LoadedFile}
use Rattle.mo_types.specs.declared.object.Section.{Section}
use Rattle.mo_types.specs.declared.reference.Ref.{Ref}
use Rattle.atom_cut.specs.Laws.{HasItsBytes}
use Rattle.atom_cut.proofs.OwnBytes.{atoms_have_bytes}
use Rattle.field_laws.specs.Pointers.{addresses_of}
use Rattle.field_laws.proofs.Found.{address_found}
use Rattle.patch.specs.Patched.{IsOutside}
use Rattle.patch.specs.Range.{bytes_of}
use Rattle.patch.specs.declared.met.Met.{Met}
use Rattle.patch.specs.declared.range.PlacedWork.{PlacedWork}
use Rattle.ref_meet.specs.Mets.{met_of, met_with}
use Rattle.ref_meet.specs.Mets as mets
use Rattle.ref_meet.specs.Scene.{refs_of}
use Rattle.sect_place.specs.Addresses.{address_in}
use Rattle.sect_place.specs.declared.layout.Layout.{Layout}
use Rattle.image_make.specs.Atoms.{kept_at, raised}
use Rattle.image_make.specs.Made.{IsLaid, ImageInputs, kept_of, mets_of, rows_of, scene_of}
use Rattle.image_make.proofs.FieldLemmas.{IsRefOf, as_met, ref_of_row, row_key_file}
use Rattle.image_make.proofs.RefLemmas.{ref_file}
use Rattle.image_make.specs.declared.kept.KeptAtom.{KeptAtom}
use Rattle.image_read.specs.Mapped.{mapped}
use Rattle.image_laws.specs.Means.{AreRising, Imaged, IsWritten, IsZerofill, KeepsOtherBytes}
use Rattle.image_laws.proofs.Layouts.{all_places}
use Rattle.image_laws.proofs.Loading.{all_outside, from_all}
use Rattle.image_laws.proofs.Rowed.{kept_found}
use Rattle.image_laws.proofs.Stated.{zerofill_atoms}
use Rattle.link_files.specs.Linked.{AreOrdered}
use Rattle.link_files.proofs.Cuts.{key_at}
use Rattle.link_files.proofs.Lists.{some_is}
use Rattle.loader_laws.specs.LinkOf.{IsAtomInMemory, IsFree, byte_of}
use Rattle.loader_laws.specs.Tellings.{AreWhole}
use Rattle.loader_laws.proofs.Behind.{zero_behind}
use Rattle.loader_laws.proofs.Finding.{atom_file, cut_from}
use Rattle.loader_laws.proofs.Seats.{IsOfFiles, IsOne, kept_key, kept_size, one_of, seat_address, seat_of}
use Rattle.loader_laws.proofs.Spread.{IsSpread, spread_of, stands_aligned}
use Rattle.loader_laws.proofs.Typed.{zerofill_there}

-- ---- its bytes

row_bytes : (m : ImageInputs) (at : ℕ) (file : LoadedFile) (atom : Atom) (row : PlacedWork) → slice_get m.files at ≡ Some file → row.file ≡ at → row.atom ≡ (one_of m at atom).atom → bytes_of m.files row ≡ atom_bytes file.object atom
unfolding bytes_of raised
row_bytes m at file atom row is same_file same_atom =
    ap (λ (n : ℕ). option_map_or (λ (f : LoadedFile). atom_bytes f.object row.atom) (slice_get m.files n) []) same_file
    ∙ ap (λ (o : Option LoadedFile). option_map_or (λ (f : LoadedFile). atom_bytes f.object row.atom) o []) is
    ∙ ap (λ (a : Atom). atom_bytes file.object a) same_atom

-- the reference of a row is of the row's atom
own_reference : (m : ImageInputs) (row : PlacedWork) (r : Ref) → (of : IsRefOf m row r) → r.atom ≡ row.atom.key
own_reference m row r of =
    let file : r.atom.file ≡ row.atom.key.file = ref_file of.file r of.whole of.among ∙ sym (row_key_file m row of.file of.whole of.piece) in
    ap (λ (f : FileId). key_at f r.atom.section r.atom.offset) file
    ∙ ap (λ (n : ℕ). key_at row.atom.key.file n r.atom.offset) of.section
    ∙ ap (λ (n : ℕ). key_at row.atom.key.file row.atom.key.section n) of.offset

-- a byte that no reference of the atom fills in is outside all fields of its row
free_fields : (m : ImageInputs) (image : List ℕ) (of : Imaged m image) (row : PlacedWork) (file : LoadedFile) (atom : Atom) (k : ℕ) → AreWhole m.files → In row (rows_of m of.layout) → slice_get m.files row.file ≡ Some file → row.atom.key ≡ atom.key → IsFree file atom k → All (IsOutside k) (mets_of m of.layout of.chains row)
unfolding mets.mets_of
free_fields m image of row file atom k whole h there key free = all_places (IsOutside k) (mets_of m of.layout of.chains row) each
  where
    each : (met : Met) → In met (mets_of m of.layout of.chains row) → IsOutside k met
    each met among =
        let from = from_filter_map (met_of (scene_of m of.layout) of.chains.words row) (refs_of m.files row) met among in
        let r : Ref = from.0 in
        let one = ref_of_row m of.layout row r whole h from.1 in
        let same : one.file ≡ file = some_is one.file file (sym one.there ∙ there) in
        let listed : In r file.refs = subst (λ (f : LoadedFile). In r f.refs) same one.among in
        let found = as_met (scene_of m of.layout) of.chains.words row r met from.2 in
        let outside : IsOutside k (met_with r found.value found.minus found.addend) = free r (Contains_from_in file.refs r listed) (own_reference m row r one ∙ key) in
        subst (IsOutside k) {x = met_with r found.value found.minus found.addend} found.is outside

-- the bytes that an object has of an atom
byte_there : (file : LoadedFile) (atom : Atom) (k : ℕ) → k < length (atom_bytes file.object atom) → slice_get (atom_bytes file.object atom) k ≡ Some (byte_of file atom k)
byte_there file atom k low =
    let there = slice_get-get_or (atom_bytes file.object atom) k 0 low in
    there ∙ ap Some (sym (ap (λ (o : Option ℕ). unwrap_or o 0) there))

byte_gone : (file : LoadedFile) (atom : Atom) (k : ℕ) → length (atom_bytes file.object atom) ≤ k → byte_of file atom k ≡ 0
byte_gone file atom k past = ap (λ (o : Option ℕ). unwrap_or o 0) (slice_get_past (atom_bytes file.object atom) k past)

written_byte : (m : ImageInputs) (image : List ℕ) (of : Imaged m image) (at : ℕ) (file : LoadedFile) (atom : Atom) (address k : ℕ) → AreWhole m.files → AreRising m → slice_get m.files at ≡ Some file → IsWritten m of.layout (one_of m at atom) address → k < atom.size → IsFree file atom k → mapped image (address + k) ≡ Some (byte_of file atom k)
written_byte m image of at file atom address k whole rising there written low free =
    let row : PlacedWork = written.row in
    let h = in_from_Contains (rows_of m of.layout) row written.of_rows in
    let bytes : bytes_of m.files row ≡ atom_bytes file.object atom = row_bytes m at file atom row there written.file written.atom in
    let long : length (bytes_of m.files row) ≡ length (atom_bytes file.object atom) = ap length bytes in
    let size : row.atom.size ≡ atom.size = ap (λ (a : Atom). a.size) written.atom ∙ kept_size m at atom in
    let key : row.atom.key ≡ atom.key = ap (λ (a : Atom). a.key) written.atom ∙ kept_key m at atom in
    let stands : row.address ≡ address = written.stands in
    ap (λ (n : ℕ). mapped image (n + k)) (sym stands)
    ∙ elim (cases_lt k (length (bytes_of m.files row))) [
      | inl within ↦
          from_all (KeepsOtherBytes image m.files (mets_of m of.layout of.chains)) (rows_of m of.layout) row (all_outside m image of rising) h k within
          (free_fields m image of row file atom k whole h (ap (slice_get m.files) written.file ∙ there) key free)
          ∙ ap (λ (xs : List ℕ). slice_get xs k) bytes ∙ byte_there file atom k (omega (arith, within, long))
      | inr past ↦ zero_behind m image of row k rising h past (omega (arith, low, size)) ∙ ap Some (sym (byte_gone file atom k (omega (arith, past, long))))
    ]

-- an atom of a section without bytes in the file has none, nor has one without a section
no_bytes : (m : ImageInputs) (image : List ℕ) (of : Imaged m image) (at : ℕ) (file : LoadedFile) (atom : Atom) (address : ℕ) → AreOrdered m.files → AreWhole m.files → In file m.files → IsZerofill m of.layout (one_of m at atom) address → In atom file.atoms ⊎ (section_numbered file.object.sections atom.key.section ≡ None) → length (atom_bytes file.object atom) ≡ 0
no_bytes m image of at file atom address ordered whole among zero (inl piece) =
    let one = from_all IsWholeFile m.files file whole among in
    let cut = cut_from file atom one piece in
    let own : HasItsBytes file.object atom = from_all (HasItsBytes file.object) (atoms_of file.object file.id) atom (atoms_have_bytes file.object file.id one.object) cut in
    let listed : In atom.key zero.section.section.atoms = subst (λ (key : AtomKey). In key zero.section.section.atoms) (kept_key m at atom) (in_from_Contains zero.section.section.atoms (one_of m at atom).atom.key zero.listed) in
    let empty = zerofill_there m of.layout zero.section file atom.key own.section of.is_image.laid ordered among one.object (sym (atom_file file atom one piece)) own.numbered (in_from_Contains of.layout.sections zero.section zero.of_layout) listed zero.zerofill in
    own.bytes ∙ ap (λ (b : Bool). if b then 0 else atom.size) empty
no_bytes m image of at file atom address ordered whole among zero (inr none) =
    ap (λ (o : Option Section). length (option_map_or (λ (s : Section). take atom.size (drop atom.key.offset s.bytes)) o [])) none

zero_byte : (m : ImageInputs) (image : List ℕ) (of : Imaged m image) (at : ℕ) (file : LoadedFile) (atom : Atom) (address k : ℕ) → AreOrdered m.files → AreWhole m.files → AreRising m → In file m.files → IsZerofill m of.layout (one_of m at atom) address → In atom file.atoms ⊎ (section_numbered file.object.sections atom.key.section ≡ None) → k < atom.size → mapped image (address + k) ≡ Some (byte_of file atom k)
zero_byte m image of at file atom address k ordered whole rising among zero from low =
    let none = no_bytes m image of at file atom address ordered whole among zero from in
    let size : (one_of m at atom).atom.size ≡ atom.size = kept_size m at atom in
    zerofill_atoms m image of (one_of m at atom) address rising zero k (omega (arith, low, size)) ∙ ap Some (sym (byte_gone file atom k (omega (arith, none))))

-- ---- its place

-- a kept atom of a file, with what stands behind it
pub one_spread : (m : ImageInputs) (layout : Layout) (file : LoadedFile) (atom : Atom) (address : ℕ) → AreRising m → IsLaid m layout → (one : IsOne m file atom) → address_in layout.placed atom.key ≡ Some address → IsSpread m atom.key (one_of m one.at atom).atom address
one_spread m layout file atom address rising laid one stood =
    let kept : KeptAtom = one_of m one.at atom in
    let known : kept_at (kept_of m) kept.atom.key ≡ Some kept = kept_found m kept rising (Contains_from_in (kept_of m) kept one.keeps) in
    spread_of m layout atom.key kept address laid (subst (λ (k : AtomKey). kept_at (kept_of m) k ≡ Some kept) (kept_key m one.at atom) known) stood

-- ---- all of it

pub one_in_memory : (m : ImageInputs) (image : List ℕ) (of : Imaged m image) (file : LoadedFile) (atom : Atom) → IsOfFiles m → AreRising m → IsOne m file atom → IsAtomInMemory image (addresses_of of.layout.placed) file atom
one_in_memory m image of file atom files rising one =
    let kept : KeptAtom = one_of m one.at atom in
    let laid = of.is_image.laid in
    let seat = seat_of m of.layout file atom rising laid one in
    let stood : address_in of.layout.placed atom.key ≡ Some seat.address = ap (address_in of.layout.placed) (sym (kept_key m one.at atom)) ∙ seat_address m of.layout kept rising laid seat in
    record {
      address = seat.address;
      stands = address_found of.layout.placed atom.key ∙ stood;
      aligned = stands_aligned m atom.key kept.atom seat.address atom.align (one_spread m of.layout file atom seat.address rising laid one stood) one.above;
      bytes = λ k low free. by seat.address seat.stands k low free;
    }
  where
    by : (address : ℕ) → IsWritten m of.layout (one_of m one.at atom) address ⊎ IsZerofill m of.layout (one_of m one.at atom) address → (k : ℕ) → k < atom.size → IsFree file atom k → mapped image (address + k) ≡ Some (byte_of file atom k)
    by address (inl written) k low free = written_byte m image of one.at file atom address k files.whole rising one.there written low free
    by address (inr zero) k low free = zero_byte m image of one.at file atom address k files.ordered files.whole rising one.among zero one.from low
