-- Where the atoms of a layout stand, and in which of its sections.
use Rattle.std.specs.Prelude.{ℕ, ◌+◌, List, position, Option}
use Rattle.std.specs.Option.{option_map, option_map_or}
use Rattle.mark_core.specs.Kept.{has}
use Rattle.mo_format.specs.declared.nlist.TheConstants.{NO_SECT}
use Rattle.mo_types.specs.declared.key.AtomKey.{AtomKey}
use Rattle.sect_place.specs.Addresses.{address_in}
use Rattle.sect_place.specs.declared.layout.Layout.{Layout}
use Rattle.sect_place.specs.declared.layout.PlacedSection.{PlacedSection}

-- the number of the first section of the image that lists an atom, from 1 (`nlist.h`: n_sect), or NO_SECT where none does
unfoldable pub section_number : List PlacedSection → AtomKey → ℕ
section_number sections atom = option_map_or (λ at. at + 1) (position (λ placed. has placed.section.atoms atom) sections) NO_SECT

-- an atom with its address, and the number of its section
pub record Site : Type 0 where
  pub atom : AtomKey
  pub address : ℕ
  pub section : ℕ

-- that of an atom that is placed
unfoldable pub site_of : Layout → AtomKey → Option Site
site_of layout atom =
    option_map (λ address. record { atom = atom; address = address; section = section_number layout.sections atom }) (address_in layout.placed atom)
