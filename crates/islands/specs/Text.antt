-- The atoms of `__text` in a layout without islands, and which groups are before an atom.
use Rattle.std.specs.Prelude.{ℕ, ◌+◌, ◌-◌, ◌&&◌, Bool, List, map, count_by, codes, slice_index_or}
use Rattle.std.specs.List.{list_any}
use Rattle.std.specs.Option.{is_some, unwrap_or}
use Rattle.std.specs.Ordering.{is_eq, is_lt}
use Rattle.mo_types.specs.Keys.{compare_keys}
use Rattle.mo_types.specs.declared.atom.Atom.{Atom}
use Rattle.mo_types.specs.declared.key.AtomKey.{AtomKey}
use Rattle.mo_types.specs.declared.out_section.OutSection.{OutSection}
use Rattle.tlv_plan.specs.Template.{atoms_of}
use Rattle.sect_list.specs.OutSections.{is_in}
use Rattle.sect_place.specs.Addresses.{address_in}
use Rattle.sect_place.specs.Arrangement.{is_code}
use Rattle.sect_place.specs.Moved.{code_keys}
use Rattle.sect_place.specs.Shifts.{sections_in}
use Rattle.sect_place.specs.declared.layout.Layout.{Layout}
use Rattle.island_core.specs.declared.cut.Extent.{Extent}

-- where an atom stands, or 0 where the layout doesn't have it
abbrev pub place_in : Layout → AtomKey → ℕ
place_in layout key = unwrap_or (address_in layout.placed key) 0

-- the kept atoms of `__text`, in the order in which they stand
unfoldable pub text_atoms : List Atom → Layout → List Atom
text_atoms kept layout = atoms_of kept (code_keys (sections_in layout.sections))

-- an atom from its first byte to its end
abbrev pub extent_of : Layout → Atom → Extent
extent_of layout atom = record { from = place_in layout atom.key; to = place_in layout atom.key + atom.size }

unfoldable pub extents_of : List Atom → Layout → List Extent
extents_of kept layout = map (extent_of layout) (text_atoms kept layout)

-- ---- groups

abbrev pub key_at : List Atom → ℕ → AtomKey
key_at atoms at =
    (slice_index_or atoms at (record { key = record { file = record { position = 0; member = 0 }; section = 0; offset = 0 }; size = 0; align = 0 })).key

-- the last atom of each group, by the groups' ends
abbrev pub lasts_of : List Atom → List ℕ → List AtomKey
lasts_of atoms ends = map (λ end. key_at atoms (end - 1)) ends

-- how many groups end before an atom of `__text`: the number of its own
abbrev pub groups_before : List AtomKey → AtomKey → ℕ
groups_before lasts key = count_by (λ last. is_lt (compare_keys last key)) lasts

-- ---- regions

abbrev pub has_key : List AtomKey → AtomKey → Bool
has_key keys key = list_any (λ k. is_eq (compare_keys k key)) keys

-- an atom stands in a section that passes a test
abbrev pub stands_in : (OutSection → Bool) → Layout → AtomKey → Bool
stands_in test layout key = list_any (λ p. test p.section && has_key p.section.atoms key) layout.sections && is_some (address_in layout.placed key)

-- an atom stands in `__TEXT`
abbrev pub is_text : OutSection → Bool
is_text section = is_in (codes "__TEXT") section

abbrev pub in_code : Layout → AtomKey → Bool
in_code layout key = stands_in is_code layout key

abbrev pub in_text : Layout → AtomKey → Bool
in_text layout key = stands_in is_text layout key
