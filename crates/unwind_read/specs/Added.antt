-- The entries of sections, at the end of others.
use Rattle.std.specs.Prelude.{ℕ, ◌≡◌, ◌++◌, List, Option}
use Rattle.std.specs.List.{filter_map, flat_map, range_with_len}
use Rattle.mo_types.specs.declared.key.FileId.{FileId}
use Rattle.mo_types.specs.declared.object.Object.{Object}
use Rattle.mo_types.specs.declared.object.Section.{Section}
use Rattle.mo_types.specs.declared.unwind.Unwind.{Unwind}
use Rattle.mo_types.specs.RelocationRules.{least}
use Rattle.unwind_read.specs.declared.ranges.Ranges.{Ranges}
use Rattle.unwind_read.specs.declared.spans.Span.{Span}
use Rattle.unwind_read.specs.Found.{entry_fault}
use Rattle.unwind_read.specs.Ranges.{AreRangesOf}
use Rattle.unwind_read.specs.Rules.{section_faults}
use Rattle.unwind_read.specs.Unwinds.{section_spans, section_unwinds, span_at, unwind_at}

-- those of the first entries of a section, and the least place of one of them that fails a test
pub record Added (object : Object) (file : FileId) (section : Section) (unwinds new_unwinds : List Unwind) (ranges new_ranges : Ranges) (at : ℕ) (fault : Option ℕ) : Type 0 where
  pub told : fault ≡ least (filter_map (entry_fault object section) (range_with_len 0 at))
  pub entries : new_unwinds ≡ unwinds ++ filter_map (unwind_at object file section) (range_with_len 0 at)
  pub spans : (spans : List Span) → AreRangesOf ranges spans → AreRangesOf new_ranges (spans ++ filter_map (span_at object section) (range_with_len 0 at))

-- those of sections, and the least place at which a part of the rule fails in one
pub record AreAll (object : Object) (file : FileId) (sections : List Section) (unwinds new_unwinds : List Unwind) (ranges new_ranges : Ranges) (fault : Option ℕ) : Type 0 where
  pub told : fault ≡ least (flat_map (section_faults object) sections)
  pub entries : new_unwinds ≡ unwinds ++ flat_map (section_unwinds object file) sections
  pub spans : (spans : List Span) → AreRangesOf ranges spans → AreRangesOf new_ranges (spans ++ flat_map (section_spans object) sections)
