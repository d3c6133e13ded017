-- Where the pointers of an image stand: the pages of its segments, and on each page the chain of its pointers
-- (`fixup-chains.h`). What is said here is said of the set of their addresses.
use Rattle.std.specs.Prelude.{ℕ, ◌+◌, ◌-◌, ◌/◌, ◌%◌, ◌==◌, ◌&&◌, Bool, nat_lt, nat_le, min, max, List, [], ◌∷◌, map, Option, Some, None}
use Rattle.std.specs.List.{filter}
use Rattle.std.specs.Option.{option_map_or}
use Rattle.fixup_chain.specs.declared.chains.Fixup.{Fixup}
use Rattle.image_format.specs.declared.fixup_chains.TheConstants.{DYLD_CHAINED_PTR_START_NONE}
use Rattle.sect_place.specs.declared.layout.Segment.{Segment}

-- the bytes of a page
abbrev pub PAGE : ℕ
PAGE = 0x4000

-- the number of the page that an address is on; segments begin with a page
abbrev pub page_of : ℕ → ℕ
page_of address = address / PAGE

unfoldable pub addresses_of : List Fixup → List ℕ
addresses_of fixups = map (λ fixup. fixup.address) fixups

-- the least of some numbers
abbrev pub least : List ℕ → Option ℕ
least [] = None
least (n ∷ ns) = Some (option_map_or (min n) (least ns) n)

-- the greatest of some numbers, or 0
abbrev pub greatest : List ℕ → ℕ
greatest [] = 0
greatest (n ∷ ns) = max n (greatest ns)

-- the other address is a greater one on the same page
abbrev pub is_after : ℕ → ℕ → Bool
is_after address other = nat_lt address other && page_of other == page_of address

-- the next greater address on the page of an address
unfoldable pub next_after : List ℕ → ℕ → Option ℕ
next_after addresses address = least (filter (is_after address) addresses)

-- the distance to it, in steps of 4 bytes, or 0
unfoldable pub steps_to_next : List ℕ → ℕ → ℕ
steps_to_next addresses address = option_map_or (λ next. (next - address) / 4) (next_after addresses address) 0

-- where the chain of a page begins in the page
unfoldable pub page_start : List ℕ → ℕ → ℕ
page_start addresses page =
    option_map_or (λ first. first % PAGE) (least (filter (λ address. page_of address == page) addresses)) DYLD_CHAINED_PTR_START_NONE

-- an address is one of a segment's
abbrev pub is_in : Segment → ℕ → Bool
is_in segment address = nat_le segment.address address && nat_lt (address - segment.address) segment.vmsize

-- the number of the page that an address of a segment is on, from the segment's first one
abbrev pub page_in : Segment → ℕ → ℕ
page_in segment address = (address - segment.address) / PAGE

-- how many pages a segment has up to the last one with a pointer; none where it has no pointer
unfoldable pub pages_of : List ℕ → Segment → ℕ
pages_of addresses segment = greatest (map (λ address. page_in segment address + 1) (filter (is_in segment) addresses))
