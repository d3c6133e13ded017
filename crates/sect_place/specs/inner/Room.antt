-- What the code that places atoms needs of its lists, and numbers that fit 64 bits whatever they are.
use Rattle.std.specs.Prelude.{ℕ, ◌-◌, ◌^◌, ◌≤◌, List, All, min}
use Rattle.std.specs.List.Sorted.{IsStrictlySortedBy}
use Rattle.std.specs.Ordering.{on}
use Rattle.mo_types.specs.Keys.{compare_keys}
use Rattle.mo_types.specs.declared.atom.Atom.{Atom}
use Rattle.sect_place.specs.declared.island.IslandArea.{IslandArea}
use Rattle.sect_place.specs.declared.layout.Placed.{Placed}
use Rattle.sect_place.specs.declared.layout.PlacedSection.{PlacedSection}
use Rattle.sect_place.specs.declared.layout.Segment.{Segment}

pub record IsRoom (kept : List Atom) (areas : List IslandArea) (unit : ℕ) : Type 0 where
  pub rising : IsStrictlySortedBy (on (λ (atom : Atom). atom.key) compare_keys) kept
  pub low : All (λ atom. atom.align ≤ 14) kept
  pub in_order : IsStrictlySortedBy (on (λ (area : IslandArea). area.last) compare_keys) areas
  pub low_unit : unit ≤ 14

-- a number, or the largest of 64 bits where it has more
abbrev pub capped : ℕ → ℕ
capped n = min n (2 ^ 64 - 1)

abbrev pub capped_place : Placed → Placed
capped_place p = record p { address = capped p.address }

abbrev pub capped_section : PlacedSection → PlacedSection
capped_section s = record s { address = capped s.address; size = capped s.size; file_offset = capped s.file_offset }

abbrev pub capped_segment : Segment → Segment
capped_segment s = record s {
  address = capped s.address;
  vmsize = capped s.vmsize;
  file_offset = capped s.file_offset;
  file_size = capped s.file_size;
  sections = min s.sections (2 ^ 32 - 1);
}
