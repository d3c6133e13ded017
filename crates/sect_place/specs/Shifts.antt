-- How far an image's islands move what its layout without islands has, as a table that is made once.
use Rattle.std.specs.Prelude.{ℕ, ◌≡◌, ◌+◌, ◌⊎◌, All, Bool, min, List, [], ◌∷◌, map, length, codes, Contains, MatchOption, Option, None, if◌then◌else◌}
use Rattle.std.specs.List.{filter}
use Rattle.std.specs.List.Sorted.{IsStrictlySortedBy}
use Rattle.std.specs.Ordering.{is_lt, on}
use Rattle.mo_types.specs.Keys.{compare_keys}
use Rattle.mo_types.specs.declared.key.AtomKey.{AtomKey}
use Rattle.mo_types.specs.declared.out_section.OutSection.{OutSection}
use Rattle.tlv_plan.specs.Template.{keys_of}
use Rattle.sect_place.specs.Arrangement.{is_code}
use Rattle.sect_list.specs.OutSections.{is_in}
use Rattle.sect_place.specs.Layout.{Plan, image_places}
use Rattle.sect_place.specs.Moved.{areas_bytes, pages_moved}
use Rattle.sect_place.specs.Places.{area_unit, islands_bytes}
use Rattle.sect_place.specs.declared.island.IslandArea.{IslandArea}
use Rattle.sect_place.specs.declared.layout.PlacedSection.{PlacedSection}
use Rattle.sect_place.specs.declared.shift.Region.{Region}
use Rattle.sect_place.specs.declared.shift.Region.TheVariants.{Code, Text}
use Rattle.sect_place.specs.declared.shift.Step.{Step}
use Rattle.sect_place.specs.inner.Room.{capped}

-- The areas in order, the bytes of all of them, and those by which whole pages move what is behind `__TEXT`.
pub record ShiftTable : Type 0 where
  pub steps : List Step
  pub all : ℕ
  pub pages : ℕ

-- each area's atom, with the bytes of the areas before it
unfoldable pub steps_from : ℕ → ℕ → List IslandArea → List Step
steps_from unit bytes [] = []
steps_from unit bytes (area ∷ areas) =
    record { last = area.last; before = bytes } ∷ steps_from unit (bytes + islands_bytes unit (length area.targets)) areas

-- the bytes before the first of some steps that isn't before an atom, or those of all
unfoldable pub step_before : List Step → ℕ → AtomKey → ℕ
step_before [] all key = all
step_before (step ∷ steps) all key = if is_lt (compare_keys step.last key) then step_before steps all key else step.before

abbrev pub sections_in : List PlacedSection → List OutSection
sections_in placed = map (λ p. p.section) placed

-- where the last section of `__TEXT` ends
unfoldable pub text_end_from : ℕ → List PlacedSection → ℕ
text_end_from end [] = end
text_end_from end (p ∷ placed) = text_end_from (if is_in (codes "__TEXT") p.section then p.address + p.size else end) placed

-- no section is more finely placed than at a multiple of 2^14
abbrev pub unit_in : List PlacedSection → ℕ
unit_in placed = min 14 (area_unit (sections_in placed))

-- the table for some areas, where these sections are placed without islands
unfoldable pub shifts_of : List PlacedSection → List IslandArea → ShiftTable
shifts_of placed areas = record {
  steps = steps_from (unit_in placed) 0 areas;
  all = areas_bytes (unit_in placed) None areas;
  pages = pages_moved (text_end_from 0 placed) (areas_bytes (unit_in placed) None areas);
}

abbrev pub in_region : Region → OutSection → Bool
in_region Code section = is_code section
in_region Text section = is_in (codes "__TEXT") section

-- whether sections of a region list an atom
abbrev pub IsListed : Region → List PlacedSection → AtomKey → Type 0
IsListed region placed key = Contains (keys_of (filter (in_region region) (sections_in placed))) key

-- An atom of `__text` moves by the bytes of the areas before it, another one of `__TEXT` by those of all areas, and one
-- behind `__TEXT` by whole pages.
abbrev pub IsShiftBy : List PlacedSection → ShiftTable → AtomKey → ℕ → Type 0
IsShiftBy placed table key bytes =
    (IsListed Code placed key × (bytes ≡ step_before table.steps table.all key))
    ⊎ (((¬ IsListed Code placed key) × IsListed Text placed key × (bytes ≡ table.all))
    ⊎ ((¬ IsListed Code placed key) × (¬ IsListed Text placed key) × (bytes ≡ table.pages)))

-- the same where all lists are in order
abbrev pub IsShift : List PlacedSection → ShiftTable → AtomKey → ℕ → Type 0
IsShift placed table key bytes =
    All (λ (p : PlacedSection). IsStrictlySortedBy compare_keys p.section.atoms) placed → IsStrictlySortedBy (on (λ (step : Step). step.last) compare_keys) table.steps → IsShiftBy placed table key bytes

-- An atom's address in what is planned, or the largest of 64 bits where that is less, and none where the atom isn't there.
abbrev pub IsAddressIn : Plan → AtomKey → Option ℕ → Type 0
IsAddressIn plan atom result =
    MatchOption result ((address : ℕ) → ¬ Contains (image_places plan) (record { atom = atom; address = address }))
    (λ address. (place : ℕ) × Contains (image_places plan) (record { atom = atom; address = place }) × (address ≡ capped place))
