-- Kept atoms stand in the segments to which their sections go.
use Rattle.std.proofs.Common.{◌≡◌, ℕ, ◌+◌, ◌<◌, ◌≤◌, List, Some, sym, ap, ◌∙◌, arith}
use Rattle.list_lemmas.proofs.Members.{Contains_from_in, In}
use Rattle.mo_types.specs.declared.atom.Atom.{Atom}
use Rattle.mo_types.specs.declared.key.AtomKey.{AtomKey}
use Rattle.mo_types.specs.declared.loaded.LoadedFile.{LoadedFile}
use Rattle.load_cmds.specs.Names.{name_field}
use Rattle.field_laws.specs.Pointers.{addresses_of}
use Rattle.field_laws.proofs.Found.{address_found}
use Rattle.sect_list.specs.OutSections.{home_of}
use Rattle.sect_place.specs.Addresses.{address_in}
use Rattle.sect_place.specs.Places.{protection_of}
use Rattle.sect_place.specs.declared.layout.PlacedSection.{PlacedSection}
use Rattle.image_make.specs.Atoms.{kept_at}
use Rattle.image_make.specs.Made.{ImageInputs, kept_of}
use Rattle.image_make.specs.declared.kept.KeptAtom.{KeptAtom}
use Rattle.image_laws.specs.Means.{AreRising, Imaged}
use Rattle.image_laws.proofs.First.{own}
use Rattle.image_laws.proofs.Layouts.{held_in_layout}
use Rattle.image_laws.proofs.Mapping.{holder_in}
use Rattle.image_laws.proofs.Rowed.{atom_within, kept_found}
use Rattle.loader_laws.specs.LinkOf.{IsInItsSegment, IsInSegment}
use Rattle.loader_laws.proofs.Seats.{IsOne, kept_key, kept_size, one_of, seat_of}
use Rattle.loader_laws.proofs.Typed.{layout_goes}

-- an address in a section is one of the segment to which the section goes
in_segment : (m : ImageInputs) (image : List ℕ) (of : Imaged m image) (section : PlacedSection) (name : List ℕ) (address : ℕ) → AreRising m → In section of.layout.sections → name ≡ section.section.segment → section.address ≤ address → address < section.address + section.size → IsInSegment image name address
in_segment m image of section name address rising among same low high =
    let by = held_in_layout m of.layout section of.is_image.laid among in
    let held = by.held in
    let begins = held.low in
    let ends = held.high in
    let named : by.segment.name ≡ name = held.named ∙ sym same in
    record {
      segment = own by.segment;
      holds = holder_in m image of by.segment address rising by.among (omega (arith, begins, low)) (omega (arith, ends, high));
      named = ap name_field named;
      allows = held.protected ∙ ap protection_of named;
    }

pub one_in_segment : (m : ImageInputs) (image : List ℕ) (of : Imaged m image) (file : LoadedFile) (atom : Atom) → AreRising m → IsOne m file atom → IsInItsSegment image m.files (addresses_of of.layout.placed) atom
one_in_segment m image of file atom rising one =
    let laid = of.is_image.laid in
    let kept : KeptAtom = one_of m one.at atom in
    let seat = (seat_of m of.layout file atom rising laid one).seated in
    let named : kept.atom.key ≡ atom.key = kept_key m one.at atom in
    let size : kept.atom.size ≡ atom.size = kept_size m one.at atom in
    let section : PlacedSection = seat.section in
    let known : kept_at (kept_of m) kept.atom.key ≡ Some kept = kept_found m kept rising (Contains_from_in (kept_of m) kept one.keeps) in
    let within = atom_within m of.layout section kept.atom.key kept seat.address rising laid seat.among seat.listed known seat.stood in
    let from = within.low in
    let to = within.high in
    let goes = layout_goes m of.layout section kept.atom.key laid seat.among seat.listed in
    record {
      address = seat.address;
      stands = address_found of.layout.placed atom.key ∙ ap (address_in of.layout.placed) (sym named) ∙ seat.stood;
      home = goes.home;
      goes = ap (λ (key : AtomKey). home_of m.files key.file key.section) (sym named) ∙ goes.of_key;
      bytes = λ k low. in_segment m image of section goes.home.to.segment (seat.address + k) rising seat.among goes.into (omega (arith, from)) (omega (arith, to, size, low));
    }
