-- The functions of kept entries stand in an image, and so do their language-specific data, where these are kept.
use Rattle.std.proofs.Common.{◌≡◌, ℕ, ◌+◌, true, Option, Some, None, Contains, refl, sym, ap, ◌∙◌, subst}
use Rattle.std.specs.Prelude.{IfSome, IsSome, slice_get}
use Rattle.std.specs.Option.{option_map}
use Rattle.std.proofs.lemmas.List.Elements.{recursion_from_All}
use Rattle.list_lemmas.proofs.Members.{Contains_from_in, In, all_in, in_from_Contains}
use Rattle.atom_cut.specs.Laws.{HasItsBytes}
use Rattle.atom_cut.proofs.OwnBytes.{atoms_have_bytes}
use Rattle.literal_merge.proofs.RepresentativeLemmas.{atoms_of_file}
use Rattle.mark_core.specs.Kept.{has}
use Rattle.mo_types.specs.Atoms.{atoms_of}
use Rattle.mo_types.specs.Loaded.{IsWholeFile}
use Rattle.mo_types.specs.RelocationRules.{section_numbered}
use Rattle.mo_types.specs.declared.atom.Atom.{Atom}
use Rattle.mo_types.specs.declared.key.AtomKey.{AtomKey}
use Rattle.mo_types.specs.declared.loaded.LoadedFile.{LoadedFile}
use Rattle.mo_types.specs.declared.object.Section.{Section}
use Rattle.ref_meet.specs.Addresses.{place_address}
use Rattle.sect_list.specs.OutSections.{home_in, home_of}
use Rattle.sect_place.specs.declared.layout.Layout.{Layout}
use Rattle.unwind_link.specs.declared.kept.KeptUnwind.{KeptUnwind}
use Rattle.image_make.specs.Atoms.{kept_as}
use Rattle.image_make.specs.Made.{IsLaid, ImageInputs, kept_of}
use Rattle.image_make.specs.declared.kept.KeptAtom.{KeptAtom}
use Rattle.image_make.proofs.EntryLemmas.{kept_entry, kept_piece, of_object, raised_key}
use Rattle.image_make.proofs.HomeLemmas.{section_home}
use Rattle.image_laws.specs.Unwinding.{AreUnwindable}
use Rattle.image_laws.proofs.Complete.{seated}

-- a place in a kept piece of a file has an address
piece_stands : (m : ImageInputs) (layout : Layout) (at : ℕ) (file : LoadedFile) (atom : Atom) (section : Section) (offset : ℕ) → AreUnwindable m → IsLaid m layout → slice_get m.files at ≡ Some file → IsWholeFile file → In atom (atoms_of file.object file.id) → section_numbered file.object.sections atom.key.section ≡ Some section → has m.keys atom.key ≡ true → IsSome (place_address layout.placed atom.key offset)
piece_stands m layout at file atom section offset able laid there whole piece numbered kept =
    let one : KeptAtom = kept_as m.literals at atom in
    let among = kept_piece m at file atom there whole.atoms piece kept in
    let key : one.atom.key ≡ atom.key = raised_key m atom in
    let home = section_home m.files at file atom.key.section section able.whole.rises there whole.object.few_sections numbered in
    let goes : home_of m.files one.atom.key.file one.atom.key.section ≡ Some (home_in section) =
    ap (λ (k : AtomKey). home_of m.files k.file k.section) key ∙ ap (λ (id : _). home_of m.files id atom.key.section) (atoms_of_file file.object file.id atom piece) ∙ home in
    let seat = seated m layout one (home_in section) able.rising laid (Contains_from_in (kept_of m) one among) (sym goes) in
    subst (λ (k : AtomKey). IsSome (place_address layout.placed k offset)) key
    (subst (λ (o : Option ℕ). IsSome (option_map (λ (start : ℕ). start + offset) o)) (sym seat.stood) refl)

pub function_stands : (m : ImageInputs) (layout : Layout) (entry : KeptUnwind) → AreUnwindable m → IsLaid m layout → Contains m.unwinds entry → IsSome (place_address layout.placed entry.unwind.atom entry.unwind.offset)
function_stands m layout entry able laid there =
    let is = kept_entry m entry able.frames.kept (in_from_Contains m.unwinds entry there) in
    let of = of_object m entry is able.whole.files able.frames.read in
    let part = of.part in
    let named : part.atom.key ≡ entry.unwind.atom = part.key in
    let piece = in_from_Contains (atoms_of is.file.object is.file.id) part.atom part.among in
    let numbered = ap (λ (key : AtomKey). section_numbered is.file.object.sections key.section) named ∙ of.entry.function.numbered in
    subst (λ (key : AtomKey). IsSome (place_address layout.placed key entry.unwind.offset)) named
    (piece_stands m layout entry.file is.file part.atom of.entry.function.section entry.unwind.offset able laid is.there of.whole piece numbered (ap (has m.keys) named ∙ is.kept))

pub data_stands : (m : ImageInputs) (layout : Layout) (entry : KeptUnwind) → AreUnwindable m → IsLaid m layout → Contains m.unwinds entry → IfSome entry.unwind.lsda (λ (place : AtomKey × ℕ). has m.keys place.0 ≡ true) → IfSome entry.unwind.lsda (λ (place : AtomKey × ℕ). IsSome (place_address layout.placed place.0 place.1))
data_stands m layout entry able laid there kept = by entry.unwind.lsda refl kept
  where
    placed : (place : AtomKey × ℕ) → entry.unwind.lsda ≡ Some place → has m.keys place.0 ≡ true → IsSome (place_address layout.placed place.0 place.1)
    placed place e is_kept =
        let is = kept_entry m entry able.frames.kept (in_from_Contains m.unwinds entry there) in
        let of = of_object m entry is able.whole.files able.frames.read in
        let in_atom = of.entry.lsda place e in
        let bytes : HasItsBytes is.file.object in_atom.atom = all_in (HasItsBytes is.file.object) (atoms_of is.file.object is.file.id) in_atom.atom (recursion_from_All (HasItsBytes is.file.object) (atoms_of is.file.object is.file.id) (atoms_have_bytes is.file.object is.file.id of.whole.object)) in_atom.among in
        subst (λ (key : AtomKey). IsSome (place_address layout.placed key place.1)) in_atom.named
        (piece_stands m layout entry.file is.file in_atom.atom bytes.section place.1 able laid is.there of.whole in_atom.among bytes.numbered (ap (has m.keys) in_atom.named ∙ is_kept))

    by : (o : Option (AtomKey × ℕ)) → entry.unwind.lsda ≡ o → IfSome o (λ (place : AtomKey × ℕ). has m.keys place.0 ≡ true) → IfSome o (λ (place : AtomKey × ℕ). IsSome (place_address layout.placed place.0 place.1))
    by None e none = tt
    by (Some place) e is_kept = placed place e is_kept
