-- Entries whose ranges have an address in common.
use Rattle.std.specs.Prelude.{ℕ, ◌+◌, ◌≡◌, ◌<◌, ◌==◌, ◌&&◌, ◌||◌, Bool, false, not, nat_lt, List, length, map, slice_get, slice_index_or, Option}
use Rattle.std.specs.List.{filter_map, list_any, range_with_len}
use Rattle.std.specs.List.Sorted.{IsPermutation}
use Rattle.std.specs.Option.{option_and_then, option_map_or}
use Rattle.mo_types.specs.Rows.{when}
use Rattle.unwind_read.specs.declared.overlaps.Bound.{Bound}
use Rattle.unwind_read.specs.declared.spans.Span.{Span}

-- both cover an offset of one section
abbrev pub overlap : Span → Span → Bool
overlap a b = a.section == b.section && nat_lt a.from b.to && nat_lt b.from a.to

-- a range overlaps that of another entry
abbrev pub overlaps_another : List Span → ℕ → Span → Bool
overlaps_another spans at span =
    list_any (λ other. not (other == at) && option_map_or (overlap span) (slice_get spans other) false) (range_with_len 0 (length spans))

-- the place of the entry at an index, where its range does
abbrev pub overlap_at : List Span → ℕ → Option ℕ
overlap_at spans at = option_and_then (λ span. when (overlaps_another spans at span) span.place) (slice_get spans at)

-- the places of all such entries
unfoldable pub overlap_faults : List Span → List ℕ
overlap_faults spans = filter_map (overlap_at spans) (range_with_len 0 (length spans))

-- a range that isn't empty
pub record IsSpan (span : Span) : Type 0 where
  pub some : span.from < span.to

-- where a range begins, and where it ends
abbrev pub begin_of : Span → Bound
begin_of span = record { section = span.section; offset = span.from }

abbrev pub end_of : Span → Bound
end_of span = record { section = span.section; offset = span.to }

-- the order of places: by section, then by offset
abbrev pub is_before : Bound → Bound → Bool
is_before a b = nat_lt a.section b.section || (a.section == b.section && nat_lt a.offset b.offset)

-- places in order
pub record IsRising (bounds : List Bound) : Type 0 where
  pub rise : (i j : ℕ) (d : Bound) → i < j → j < length bounds → is_before (slice_index_or bounds j d) (slice_index_or bounds i d) ≡ false

-- some places in order
pub record IsOrdered (bounds ordered : List Bound) : Type 0 where
  pub moved : IsPermutation bounds ordered
  pub rise : IsRising ordered

-- the begins of ranges in order, and their ends
pub record AreBounds (spans : List Span) (begins ends : List Bound) : Type 0 where
  pub from : IsOrdered (map begin_of spans) begins
  pub to : IsOrdered (map end_of spans) ends

-- each range before a place begins where the one before it ends, or after it
pub record RiseTo (spans : List Span) (at : ℕ) : Type 0 where
  pub next : (k : ℕ) (d : Span) → k + 1 < at → k + 1 < length spans → is_before (begin_of (slice_index_or spans (k + 1) d)) (end_of (slice_index_or spans k d)) ≡ false
