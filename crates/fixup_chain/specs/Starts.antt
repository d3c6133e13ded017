-- The starts of the chains of an image (`fixup-chains.h`: dyld_chained_starts_in_image,
-- dyld_chained_starts_in_segment).
use Rattle.std.specs.Prelude.{ℕ, zero, suc, ◌+◌, ◌-◌, ◌*◌, ◌%◌, ◌^◌, ◌==◌, List, [], ◌∷◌, ◌++◌, length, replicate, if◌then◌else◌}
use Rattle.mo_bytes.specs.Number.{number_bytes}
use Rattle.image_format.specs.ChainedFixups.{chained_starts_in_image_bytes, chained_starts_in_segment_bytes}
use Rattle.image_format.specs.declared.fixup_chains.TheConstants.{DYLD_CHAINED_PTR_64_OFFSET}
use Rattle.sect_place.specs.declared.layout.Segment.{Segment}
use Rattle.fixup_chain.specs.Places.{PAGE, page_of, page_start, pages_of}

-- the zeros that stand before the next multiple of a size
unfoldable pub zeros_to : ℕ → ℕ → List ℕ
zeros_to size at = replicate ((size - at % size) % size) 0

-- where the chains of some pages begin, one page after the other
unfoldable pub page_starts : List ℕ → ℕ → ℕ → List ℕ
page_starts addresses page zero = []
page_starts addresses page (suc count) = number_bytes 2 (page_start addresses page) ++ page_starts addresses (page + 1) count

-- the starts of a segment of an image that begins at `base`, with those of some pages
unfoldable pub segment_bytes : List ℕ → ℕ → Segment → ℕ → List ℕ
segment_bytes addresses base segment count =
    chained_starts_in_segment_bytes (record { size = (22 + 2 * count) % 2 ^ 32; page_size = PAGE; pointer_format = DYLD_CHAINED_PTR_64_OFFSET; segment_offset = segment.address - base; max_valid_pointer = 0; page_count = count % 2 ^ 16 })
    ++ page_starts addresses (page_of segment.address) count

-- what a segment has among the starts, behind a number of bytes: nothing where it has no pointer, and else its starts
-- at the next multiple of 8
unfoldable pub part_of : List ℕ → ℕ → ℕ → Segment → List ℕ
part_of addresses base at segment =
    if pages_of addresses segment == 0 then []
    else zeros_to 8 at ++ segment_bytes addresses base segment (pages_of addresses segment)

-- where its starts are, or 0
unfoldable pub offset_of : List ℕ → ℕ → Segment → ℕ
offset_of addresses at segment = if pages_of addresses segment == 0 then 0 else at + length (zeros_to 8 at)

unfoldable pub parts_from : List ℕ → ℕ → ℕ → List Segment → List ℕ
parts_from addresses base at [] = []
parts_from addresses base at (segment ∷ segments) =
    part_of addresses base at segment ++ parts_from addresses base (at + length (part_of addresses base at segment)) segments

unfoldable pub offsets_from : List ℕ → ℕ → ℕ → List Segment → List ℕ
offsets_from addresses base at [] = []
offsets_from addresses base at (segment ∷ segments) =
    number_bytes 4 (offset_of addresses at segment % 2 ^ 32) ++ offsets_from addresses base (at + length (part_of addresses base at segment)) segments

-- the bytes before the starts of the first segment: the count of segments and an offset for each
abbrev pub lead : List Segment → ℕ
lead segments = 4 + 4 * length segments

unfoldable pub starts_bytes : List ℕ → ℕ → List Segment → List ℕ
starts_bytes addresses base segments =
    chained_starts_in_image_bytes (record { seg_count = length segments % 2 ^ 32 })
    ++ (offsets_from addresses base (lead segments) segments ++ parts_from addresses base (lead segments) segments)
