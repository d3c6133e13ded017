-- Where segments are open to pointers, told of all pointers at once.
use Rattle.std.specs.Prelude.{ℕ, ◌≡◌, ◌+◌, ◌<◌, ◌≤◌, ◌&&◌, ◌||◌, Bool, false, nat_le, nat_lt, List, length, slice_index_or}
use Rattle.std.specs.List.{list_any}
use Rattle.sect_place.specs.declared.layout.Segment.{Segment}
use Rattle.fixup_chain.specs.Faults.{is_closed, is_text}
use Rattle.fixup_chain.specs.Places.{page_in}
use Rattle.fixup_chain.specs.declared.chains.Fixup.{Fixup}

-- some address from one to another may be one of a segment's at which no pointer may be
abbrev pub may_close : ℕ → ℕ → Segment → Bool
may_close first last segment =
    (nat_lt first (segment.address + segment.vmsize) && nat_le segment.address last) && (is_text segment || nat_le 0xffff (page_in segment last))

-- the segments are open to pointers from one address to another
pub record AreBetween (segments : List Segment) (first last : ℕ) : Type 0 where
  pub none : (address : ℕ) → first ≤ address → address ≤ last → list_any (is_closed address) segments ≡ false

-- they are open to some pointers
pub record AreOpen (segments : List Segment) (fixups : List Fixup) : Type 0 where
  pub none : (k : ℕ) (d : Fixup) → k < length fixups → list_any (is_closed (slice_index_or fixups k d).address) segments ≡ false
