-- Where the segments of an image, its sections and its atoms stand: one behind the other, each at the least place
-- that is a multiple of its alignment and isn't below the end of what comes before (`loader.h`: segment_command_64,
-- section_64).
use Rattle.std.specs.Prelude.{ℕ, ◌≡◌, ◌^◌, ◌+◌, ◌-◌, ◌*◌, ◌==◌, ◌&&◌, Bool, bit_or, not, max, List, [], ◌∷◌, ◌++◌, map, length, codes, if◌then◌else◌}
use Rattle.std.specs.List.{find}
use Rattle.std.specs.Option.{option_map_or}
use Rattle.std.specs.Ordering.{is_eq}
use Rattle.std.specs.Str.{bytes_eq}
use Rattle.mo_bytes.specs.Rounding.{IsLeastMultiple}
use Rattle.mo_format.specs.declared.loader.TheConstants.{SG_READ_ONLY, VM_PROT_EXECUTE, VM_PROT_READ, VM_PROT_WRITE}
use Rattle.mo_types.specs.Keys.{compare_keys}
use Rattle.mo_types.specs.Whole.{is_zerofill}
use Rattle.mo_types.specs.declared.atom.Atom.{Atom}
use Rattle.mo_types.specs.declared.key.AtomKey.{AtomKey}
use Rattle.mo_types.specs.declared.out_section.OutSection.{OutSection}
use Rattle.tlv_plan.specs.Template.{aligned, atoms_of, stand, end_of}
use Rattle.sect_list.specs.OutSections.{is_in}
use Rattle.sect_place.specs.declared.island.IslandArea.{IslandArea}
use Rattle.sect_place.specs.declared.layout.Placed.{Placed}
use Rattle.sect_place.specs.declared.layout.PlacedSection.{PlacedSection}
use Rattle.sect_place.specs.declared.layout.Segment.{Segment}
use Rattle.sect_place.specs.declared.part.Group.{Group}
use Rattle.sect_place.specs.declared.part.Part.{Part}

-- ---- atoms

-- An island has three instructions. An area has room for them at multiples of 4, and is a multiple of `__TEXT`'s
-- greatest alignment, 2^unit, so that what stands behind it keeps its alignment.
abbrev pub islands_bytes : ℕ → ℕ → ℕ
islands_bytes unit count = if count == 0 then 0 else aligned unit (3 + 12 * count)

-- the bytes of the area behind an atom
unfoldable pub bytes_behind : List IslandArea → ℕ → AtomKey → ℕ
bytes_behind areas unit key = option_map_or (λ area. islands_bytes unit (length area.targets)) (find (λ area. is_eq (compare_keys area.last key)) areas) 0

-- an atom with the area behind it
abbrev pub with_area : List IslandArea → ℕ → Atom → Atom
with_area areas unit atom = record atom { size = atom.size + bytes_behind areas unit atom.key }

-- the kept atoms of some keys
unfoldable pub spaced : List Atom → List IslandArea → ℕ → List AtomKey → List Atom
spaced kept areas unit keys = map (with_area areas unit) (atoms_of kept keys)

-- the greatest alignment in `__TEXT`, at least that of an instruction
unfoldable pub area_unit : List OutSection → ℕ
area_unit [] = 2
area_unit (section ∷ sections) = if is_in (codes "__TEXT") section then max section.align (area_unit sections) else area_unit sections

-- ---- the sections of one segment, where `atoms` gives what stands for the keys of a section

abbrev pub part_from : ℕ → Part → ℕ
part_from at part = aligned part.section.align at

-- where a section ends that may begin at a place
unfoldable pub part_end : (List AtomKey → List Atom) → ℕ → Part → ℕ
part_end atoms at part = end_of (part_from at part) (atoms part.section.atoms) + part.fixed

unfoldable pub parts_end : (List AtomKey → List Atom) → ℕ → List Part → ℕ
parts_end atoms at [] = at
parts_end atoms at (part ∷ parts) = parts_end atoms (part_end atoms at part) parts

-- whether it has bytes in the file
unfoldable pub is_filled : (List AtomKey → List Atom) → ℕ → Part → Bool
is_filled atoms at part = not (is_zerofill part.section.kind) && not (part_end atoms at part == part_from at part)

-- the end of the last section that has bytes in the file, or `filled`
unfoldable pub parts_filled : (List AtomKey → List Atom) → ℕ → ℕ → List Part → ℕ
parts_filled atoms filled at [] = filled
parts_filled atoms filled at (part ∷ parts) =
    parts_filled atoms (if is_filled atoms at part then part_end atoms at part else filled) (part_end atoms at part) parts

-- A section of the segment that begins at `start`, and in the file at `file`.
unfoldable pub placed_section : (List AtomKey → List Atom) → ℕ → ℕ → ℕ → Part → PlacedSection
placed_section atoms start file at part = record {
  section = part.section;
  address = part_from at part;
  size = part_end atoms at part - part_from at part;
  file_offset = if is_zerofill part.section.kind then 0 else file + (part_from at part - start);
}

unfoldable pub parts_sections : (List AtomKey → List Atom) → ℕ → ℕ → ℕ → List Part → List PlacedSection
parts_sections atoms start file at [] = []
parts_sections atoms start file at (part ∷ parts) =
    placed_section atoms start file at part ∷ parts_sections atoms start file (part_end atoms at part) parts

abbrev pub places : List (Atom × ℕ) → List Placed
places stood = map (λ p. record { atom = p.0.key; address = p.1 }) stood

unfoldable pub parts_places : (List AtomKey → List Atom) → ℕ → List Part → List Placed
parts_places atoms at [] = []
parts_places atoms at (part ∷ parts) =
    places (stand (part_from at part) (atoms part.section.atoms)) ++ parts_places atoms (part_end atoms at part) parts

-- ---- segments

-- pages of 0x4000 bytes
abbrev pub page_up : ℕ → ℕ
page_up at = aligned 14 at

-- where the sections of a segment end, the first of which may begin `lead` bytes behind the segment's start
abbrev pub group_end : (List AtomKey → List Atom) → ℕ → ℕ → Group → ℕ
group_end atoms at lead group = parts_end atoms (at + lead) group.parts

-- the bytes of a segment in the file
unfoldable pub file_bytes : (List AtomKey → List Atom) → ℕ → ℕ → Group → ℕ
file_bytes atoms at lead group = page_up (parts_filled atoms (at + lead) (at + lead) group.parts) - at

-- what memory allows: code is read and run, data are read and written
abbrev pub protection_of : List ℕ → ℕ
protection_of name = if bytes_eq name (codes "__TEXT") then bit_or VM_PROT_READ VM_PROT_EXECUTE else bit_or VM_PROT_READ VM_PROT_WRITE

-- what the loader makes read-only once it is done
abbrev pub flags_of : List ℕ → ℕ
flags_of name = if bytes_eq name (codes "__DATA_CONST") then SG_READ_ONLY else 0

unfoldable pub segment_of : (List AtomKey → List Atom) → ℕ → ℕ → ℕ → Group → Segment
segment_of atoms at file lead group = record {
  name = group.name;
  address = at;
  vmsize = page_up (group_end atoms at lead group) - at;
  file_offset = file;
  file_size = file_bytes atoms at lead group;
  protection = protection_of group.name;
  flags = flags_of group.name;
  sections = length group.parts;
}

unfoldable pub groups_segments : (List AtomKey → List Atom) → ℕ → ℕ → ℕ → List Group → List Segment
groups_segments atoms at file lead [] = []
groups_segments atoms at file lead (group ∷ groups) =
    segment_of atoms at file lead group
    ∷ groups_segments atoms (page_up (group_end atoms at lead group)) (file + file_bytes atoms at lead group) 0 groups

unfoldable pub groups_sections : (List AtomKey → List Atom) → ℕ → ℕ → ℕ → List Group → List PlacedSection
groups_sections atoms at file lead [] = []
groups_sections atoms at file lead (group ∷ groups) =
    parts_sections atoms at file (at + lead) group.parts
    ++ groups_sections atoms (page_up (group_end atoms at lead group)) (file + file_bytes atoms at lead group) 0 groups

unfoldable pub groups_places : (List AtomKey → List Atom) → ℕ → ℕ → List Group → List Placed
groups_places atoms at lead [] = []
groups_places atoms at lead (group ∷ groups) =
    parts_places atoms (at + lead) group.parts ++ groups_places atoms (page_up (group_end atoms at lead group)) 0 groups

-- where the last segment ends
unfoldable pub groups_end : (List AtomKey → List Atom) → ℕ → ℕ → List Group → ℕ
groups_end atoms at lead [] = at
groups_end atoms at lead (group ∷ groups) = groups_end atoms (page_up (group_end atoms at lead group)) 0 groups

-- and in the file
unfoldable pub groups_file : (List AtomKey → List Atom) → ℕ → ℕ → ℕ → List Group → ℕ
groups_file atoms at file lead [] = file
groups_file atoms at file lead (group ∷ groups) =
    groups_file atoms (page_up (group_end atoms at lead group)) (file + file_bytes atoms at lead group) 0 groups

-- ---- atoms with what stands behind them

-- where each atom of a segment's sections stands, with its area
unfoldable pub parts_stand : (List AtomKey → List Atom) → ℕ → List Part → List (Atom × ℕ)
parts_stand atoms at [] = []
parts_stand atoms at (part ∷ parts) =
    stand (part_from at part) (atoms part.section.atoms) ++ parts_stand atoms (part_end atoms at part) parts

unfoldable pub groups_stand : (List AtomKey → List Atom) → ℕ → ℕ → List Group → List (Atom × ℕ)
groups_stand atoms at lead [] = []
groups_stand atoms at lead (group ∷ groups) =
    parts_stand atoms (at + lead) group.parts ++ groups_stand atoms (page_up (group_end atoms at lead group)) 0 groups

-- places of atoms in turn, each of which is the least multiple of the atom's alignment that isn't below the end of
-- what comes before
abbrev pub AreLeast : ℕ → List Atom → List ℕ → Type 0
AreLeast at [] places = places ≡ []
AreLeast at (atom ∷ atoms) [] = ⊥
AreLeast at (atom ∷ atoms) (place ∷ places) = IsLeastMultiple (2 ^ atom.align) at place × AreLeast (place + atom.size) atoms places
