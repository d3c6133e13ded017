-- What is kept of the ranges of entries, in the order of the entries.
use Rattle.std.specs.Prelude.{ℕ, ◌+◌, ◌-◌, ◌≡◌, ◌<◌, true, List, length, map, slice_index_or}
use Rattle.mo_types.specs.declared.unwind.Unwind.{Unwind}
use Rattle.unwind_read.specs.declared.ranges.Ranges.{Ranges}
use Rattle.unwind_read.specs.declared.spans.Span.{Span}
use Rattle.unwind_read.specs.Overlaps.{RiseTo, end_of}

abbrev pub place_of : Span → ℕ
place_of span = span.place

-- the places of their entries, where the last of them ends, and that they rise, if this is told
pub record AreRangesOf (ranges : Ranges) (spans : List Span) : Type 0 where
  pub places : ranges.places.items ≡ map place_of spans
  pub end : (d : Span) → 0 < length spans → ranges.end ≡ end_of (slice_index_or spans (length spans - 1) d)
  pub rise : ranges.rises ≡ true → RiseTo spans (length spans)

-- the range for which an entry stands whose place is given
abbrev pub span_from : ℕ → Unwind → Span
span_from place unwind = record {
  section = unwind.atom.section;
  from = unwind.atom.offset + unwind.offset;
  to = unwind.atom.offset + unwind.offset + unwind.length;
  place = place;
}
