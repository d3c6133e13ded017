-- The unwind entries of an object, or the first entry at fault.
use Rattle.std.specs.Prelude.{ℕ, ◌+◌, ◌-◌, nat_lt, min, List, [], ◌++◌, Option, Some, None, Result, Ok, Err, if◌then◌else◌}
use Rattle.std.specs.List.{filter_map, flat_map, range_with_len}
use Rattle.std.specs.Option.{option_and_then, option_map, option_map_or}
use Rattle.mo_types.specs.declared.key.AtomKey.{AtomKey}
use Rattle.mo_types.specs.declared.key.FileId.{FileId}
use Rattle.mo_types.specs.declared.object.Object.{Object}
use Rattle.mo_types.specs.declared.object.RawReloc.{RawReloc}
use Rattle.mo_types.specs.declared.object.Section.{Section}
use Rattle.mo_types.specs.declared.reference.Target.{Target}
use Rattle.mo_types.specs.declared.reference.Target.TheVariants.{Name, Local}
use Rattle.mo_types.specs.declared.unwind.Unwind.{Unwind}
use Rattle.mo_types.specs.RelocationRules.{least}
use Rattle.mo_types.specs.Rows.{when}
use Rattle.unwind_read.specs.declared.entry.CompactUnwindEntry.{CompactUnwindEntry}
use Rattle.unwind_read.specs.declared.fault.UnwindFault.{UnwindFault}
use Rattle.unwind_read.specs.declared.fault.UnwindFault.TheVariants.{BadEntry, OutOfMemory}
use Rattle.unwind_read.specs.declared.pointers.EntryRelocs.{EntryRelocs}
use Rattle.unwind_read.specs.declared.spans.Span.{Span}
use Rattle.unwind_read.specs.declared.spots.Spot.{Spot}
use Rattle.unwind_read.specs.Overlaps.{overlap_faults}
use Rattle.unwind_read.specs.Rules.{entry_at, entry_count, entry_place, entry_relocs, fails_test, has_entries, section_faults}
use Rattle.unwind_read.specs.Spots.{pointee, spot_at}

-- the key of a place's atom, and the offset in the atom
abbrev pub atom_of : FileId → Spot → AtomKey
atom_of file spot = record { file = file; section = spot.section; offset = spot.start }

abbrev pub offset_of : Spot → ℕ
offset_of spot = spot.offset - spot.start

-- where the function of an entry stands
abbrev pub function_of : Object → CompactUnwindEntry → EntryRelocs → Option Spot
function_of object entry relocs = option_and_then (pointee object entry.function) relocs.function

-- how many bytes of the function the entry covers: its range ends at its atom's end at the latest
abbrev pub length_of : CompactUnwindEntry → Spot → ℕ
length_of entry function = min entry.length (function.end - function.offset)

-- the personality that a relocation names, or that stands at the address that the field holds
abbrev pub personality_at : Object → FileId → ℕ → RawReloc → Option Target
personality_at object file held reloc =
    if reloc.external then Some (Name reloc.number)
    else option_map (λ spot. Local (atom_of file spot) (offset_of spot)) (spot_at object reloc.number held)

abbrev pub personality_of : Object → FileId → CompactUnwindEntry → EntryRelocs → Option Target
personality_of object file entry relocs = option_and_then (personality_at object file entry.personality) relocs.personality

abbrev pub lsda_of : Object → FileId → CompactUnwindEntry → EntryRelocs → Option (AtomKey × ℕ)
lsda_of object file entry relocs =
    option_and_then (λ reloc. option_map (λ spot. (atom_of file spot, offset_of spot)) (pointee object entry.lsda reloc)) relocs.lsda

-- the function of an entry that passes the tests and whose range isn't empty; others are dropped
unfoldable pub kept_function : Object → CompactUnwindEntry → EntryRelocs → Option Spot
kept_function object entry relocs =
    if fails_test object entry relocs then None
    else option_and_then (λ function. when (nat_lt 0 (length_of entry function)) function) (function_of object entry relocs)

-- what the entry says, by where its function stands
abbrev pub unwind_with : Object → FileId → CompactUnwindEntry → EntryRelocs → Spot → Unwind
unwind_with object file entry relocs function = record {
  atom = atom_of file function;
  offset = offset_of function;
  length = length_of entry function;
  encoding = entry.encoding;
  personality = personality_of object file entry relocs;
  lsda = lsda_of object file entry relocs;
}

-- the range that the entry covers
abbrev pub span_with : ℕ → CompactUnwindEntry → Spot → Span
span_with place entry function = record {
  place = place;
  section = function.section;
  from = function.offset;
  to = function.offset + length_of entry function;
}

-- the same of the entry with a number from 0
unfoldable pub unwind_at : Object → FileId → Section → ℕ → Option Unwind
unwind_at object file section i =
    option_map (unwind_with object file (entry_at section i) (entry_relocs section i)) (kept_function object (entry_at section i) (entry_relocs section i))

unfoldable pub span_at : Object → Section → ℕ → Option Span
span_at object section i =
    option_map (span_with (entry_place section i) (entry_at section i)) (kept_function object (entry_at section i) (entry_relocs section i))

-- those of all entries of a section, in their order
unfoldable pub section_unwinds : Object → FileId → Section → List Unwind
section_unwinds object file section =
    if has_entries section then filter_map (unwind_at object file section) (range_with_len 0 (entry_count section)) else []

unfoldable pub section_spans : Object → Section → List Span
section_spans object section =
    if has_entries section then filter_map (span_at object section) (range_with_len 0 (entry_count section)) else []

-- and of an object
abbrev pub spans_of : Object → List Span
spans_of object = flat_map (section_spans object) object.sections

-- the places at which a part of the rule fails; which file it is matters to none
abbrev pub fault_places : Object → List ℕ
fault_places object = flat_map (section_faults object) object.sections ++ overlap_faults (spans_of object)

-- the least of them
unfoldable pub first_fault : Object → Option ℕ
first_fault object = least (fault_places object)

-- the unwind entries of an object, or the first entry at fault
unfoldable pub unwinds_of : Object → FileId → Result (List Unwind) UnwindFault
unwinds_of object file =
    option_map_or (λ place. Err (BadEntry place)) (first_fault object) (Ok (flat_map (section_unwinds object file) object.sections))

-- a fault that the object has
abbrev pub IsUnwindFault : UnwindFault → Type 0
IsUnwindFault OutOfMemory = ⊥
IsUnwindFault _ = Unit {0}
