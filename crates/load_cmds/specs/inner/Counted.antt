-- Sections that are counted by their segments.
use Rattle.std.specs.Prelude.{ℕ, ◌≤◌, List, [], ◌∷◌, length, drop}
use Rattle.sect_place.specs.declared.layout.PlacedSection.{PlacedSection}
use Rattle.sect_place.specs.declared.layout.Segment.{Segment}

-- the next sections of each segment are there
abbrev pub AreCounted : List Segment → List PlacedSection → Type 0
AreCounted [] sections = Unit {0}
AreCounted (segment ∷ segments) sections = (segment.sections ≤ length sections) × AreCounted segments (drop segment.sections sections)
