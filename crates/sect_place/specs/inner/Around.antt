-- How far an atom moves, as the section tells in whose midst it stands.
use Rattle.std.specs.Prelude.{ℕ, ◌≡◌, ◌+◌, ◌<◌, ◌⊎◌, List, codes, Contains, if◌then◌else◌}
use Rattle.std.specs.List.Sorted.{IsStrictlySortedBy}
use Rattle.std.specs.Ordering.{on}
use Rattle.mo_types.specs.Keys.{compare_keys}
use Rattle.mo_types.specs.declared.key.AtomKey.{AtomKey}
use Rattle.mo_types.specs.declared.out_section.OutSection.{OutSection}
use Rattle.sect_list.specs.OutSections.{is_in}
use Rattle.sect_place.specs.Arrangement.{is_code}
use Rattle.sect_place.specs.Shifts.{IsShift, ShiftTable, step_before}
use Rattle.sect_place.specs.declared.layout.PlacedSection.{PlacedSection}
use Rattle.sect_place.specs.declared.shift.Step.{Step}

-- a section in whose midst a place is, where no other section is
abbrev pub IsAround : List PlacedSection → ℕ → PlacedSection → Type 0
IsAround placed place p = Contains placed p × (p.address < place) × (place < p.address + p.size)

-- how far an atom of a section moves
abbrev pub shift_in : OutSection → ShiftTable → AtomKey → ℕ
shift_in section table key =
    if is_code section then step_before table.steps table.all key else (if is_in (codes "__TEXT") section then table.all else table.pages)

-- the same where the areas are in order
abbrev pub IsShiftIn : OutSection → ShiftTable → AtomKey → ℕ → Type 0
IsShiftIn section table key bytes = IsStrictlySortedBy (on (λ (step : Step). step.last) compare_keys) table.steps → bytes ≡ shift_in section table key

-- how far an atom moves that stands at a place, as the sections' lists tell, or the place
abbrev pub IsShiftAt : List PlacedSection → ShiftTable → AtomKey → ℕ → ℕ → Type 0
IsShiftAt placed table key place bytes =
    IsShift placed table key bytes ⊎ ((p : PlacedSection) × IsAround placed place p × IsShiftIn p.section table key bytes)
