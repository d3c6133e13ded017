-- The atoms that have bytes in the image, with their places.
use Rattle.std.specs.Prelude.{ℕ, ◌+◌, ◌-◌, Bool, not, List, Option}
use Rattle.std.specs.List.{filter, filter_map, flat_map}
use Rattle.std.specs.Option.{option_and_then, option_map}
use Rattle.mo_types.specs.Whole.{is_zerofill}
use Rattle.mo_types.specs.declared.key.AtomKey.{AtomKey}
use Rattle.patch.specs.declared.range.PlacedWork.{PlacedWork}
use Rattle.sect_place.specs.declared.layout.Placed.{Placed}
use Rattle.sect_place.specs.declared.layout.PlacedSection.{PlacedSection}
use Rattle.sect_place.specs.Addresses.{address_in}
use Rattle.image_make.specs.Atoms.{kept_at}
use Rattle.image_make.specs.declared.kept.KeptAtom.{KeptAtom}

-- a kept atom that stands at an address, in a section of the image
abbrev pub row_at : PlacedSection → KeptAtom → ℕ → PlacedWork
row_at section kept address = record {
  atom = kept.atom;
  file = kept.file;
  at = section.file_offset + (address - section.address);
  address = address;
}

-- the atom with a key in a section, by the addresses of atoms
unfoldable pub row_of : List Placed → List KeptAtom → PlacedSection → AtomKey → Option PlacedWork
row_of placed atoms section key =
    option_and_then (λ kept. option_map (row_at section kept) (address_in placed key)) (kept_at atoms key)

-- the atoms of a section, where it has bytes in the file
unfoldable pub section_rows : List Placed → List KeptAtom → PlacedSection → List PlacedWork
section_rows placed atoms section = filter_map (row_of placed atoms section) section.section.atoms

abbrev pub has_bytes : PlacedSection → Bool
has_bytes section = not (is_zerofill section.section.kind)

-- those of all sections, in the order of the image
unfoldable pub rows : List Placed → List KeptAtom → List PlacedSection → List PlacedWork
rows placed atoms sections = flat_map (section_rows placed atoms) (filter has_bytes sections)
