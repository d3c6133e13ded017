-- A layout that can be written (`loader.h`: segment_command_64, section_64): one segment `__TEXT`, nothing but
-- `__PAGEZERO` before it, segments at multiples of a page and one behind the other, each section in its segment, and
-- nothing farther from the start of the file than from that of memory.
use Rattle.std.specs.Prelude.{ℕ, ◌≡◌, ◌≢◌, ◌+◌, ◌*◌, ◌<◌, ◌≤◌, ◌^◌, ◌⊎◌, List, [], ◌∷◌, length, take, drop, codes, All}
use Rattle.sect_place.specs.declared.layout.Layout.{Layout}
use Rattle.sect_place.specs.declared.layout.PlacedSection.{PlacedSection}
use Rattle.sect_place.specs.declared.layout.Segment.{Segment}

-- a segment whose memory is whole pages of 0x4000 bytes, below 2^63, and which has no more bytes in the file than there
pub record IsWholeSegment (segment : Segment) : Type 0 where
  pub page : (count : ℕ) × (segment.address ≡ count * 0x4000)
  pub small : segment.address + segment.vmsize < 2 ^ 63
  pub file : segment.file_offset ≤ segment.address
  pub file_bytes : segment.file_size ≤ segment.vmsize

-- one segment `__TEXT`, behind nothing but `__PAGEZERO`
abbrev pub AreLedByText : List Segment → Type 0
AreLedByText [] = ⊥
AreLedByText (segment ∷ segments) =
    ((segment.name ≡ codes "__TEXT") × All (λ other. other.name ≢ codes "__TEXT") segments)
    ⊎ ((segment.name ≡ codes "__PAGEZERO") × AreLedByText segments)

-- none begins before the one before it ends
abbrev pub AreInTurn : List Segment → Type 0
AreInTurn [] = Unit {0}
AreInTurn (segment ∷ []) = Unit {0}
AreInTurn (segment ∷ next ∷ segments) = (segment.address + segment.vmsize ≤ next.address) × AreInTurn (next ∷ segments)

-- a section within a segment
abbrev pub IsIn : Segment → PlacedSection → Type 0
IsIn segment placed = (segment.address ≤ placed.address) × (placed.address + placed.size ≤ segment.address + segment.vmsize)

-- the sections of each segment in turn, and no others
abbrev pub AreInSegments : List Segment → List PlacedSection → Type 0
AreInSegments [] sections = sections ≡ []
AreInSegments (segment ∷ segments) sections =
    (segment.sections ≤ length sections) × All (IsIn segment) (take segment.sections sections) × AreInSegments segments (drop segment.sections sections)

pub record IsWholeLayout (layout : Layout) : Type 0 where
  pub text : AreLedByText layout.segments
  pub segments : All IsWholeSegment layout.segments
  pub in_turn : AreInTurn layout.segments
  pub sections : AreInSegments layout.segments layout.sections
  pub files : All (λ placed. placed.file_offset ≤ placed.address) layout.sections
