-- The rule that entries of compact unwind keep, each part with the places at which it fails.
use Rattle.std.specs.Prelude.{ℕ, ◌+◌, ◌*◌, ◌/◌, ◌%◌, ◌^◌, ◌==◌, ◌&&◌, ◌||◌, Bool, false, true, not, nat_lt, List, [], ◌∷◌, length, map, take, codes, slice_get, is_none, is_some, if◌then◌else◌}
use Rattle.std.specs.List.{filter_map, flat_map, list_any, range_with_len}
use Rattle.std.specs.Option.{option_map_or}
use Rattle.std.specs.Str.{bytes_eq}
use Rattle.mo_types.specs.declared.object.Object.{Object}
use Rattle.mo_types.specs.declared.object.RawReloc.{RawReloc}
use Rattle.mo_types.specs.declared.object.Section.{Section}
use Rattle.mo_types.specs.RelocationRules.{is_absolute, is_unnameable}
use Rattle.mo_types.specs.Rows.{when}
use Rattle.unwind_read.specs.declared.entry.CompactUnwindEntry.{CompactUnwindEntry}
use Rattle.unwind_read.specs.declared.pointers.EntryRelocs.{EntryRelocs}
use Rattle.unwind_read.specs.Entry.{compact_unwind_entry_at}
use Rattle.unwind_read.specs.Pointers.{is_pointer, pointer_at, relocs_of}
use Rattle.unwind_read.specs.Spots.{pointee, spot_at}

-- the section of entries
abbrev pub has_entries : Section → Bool
has_entries section = bytes_eq section.segment (codes "__LD") && bytes_eq section.name (codes "__compact_unwind")

-- how many whole entries stand in its bytes
abbrev pub entry_count : Section → ℕ
entry_count section = length section.bytes / 32

-- the place of an entry in the object's bytes
abbrev pub entry_place : Section → ℕ → ℕ
entry_place section i = section.file_offset + 32 * i

-- the entry with a number from 0, and the relocations of its fields
unfoldable pub entry_at : Section → ℕ → CompactUnwindEntry
entry_at section i = compact_unwind_entry_at section.bytes (32 * i)

unfoldable pub entry_relocs : Section → ℕ → EntryRelocs
entry_relocs section i = relocs_of section.relocs i

-- A part of the rule: of how many things of a section it is asked, whether it fails at one of them, and at which place
-- that is told.
pub record UnwindRule : Type 0 where
  pub count : Section → ℕ
  pub fails : Object → Section → ℕ → Bool
  pub place : Section → ℕ → ℕ

-- the section isn't whole entries; told at the one that isn't whole
abbrev pub not_whole : UnwindRule
not_whole = record {
  count = λ section. 1;
  fails = λ object section k. not (section.size == 32 * entry_count section);
  place = λ section k. entry_place section (entry_count section);
}

-- r_address lies in an entry
abbrev pub is_in_entry : Section → RawReloc → Bool
is_in_entry section reloc = nat_lt reloc.address (2 ^ 31) && nat_lt (reloc.address / 32) (entry_count section)

-- the place of the entry in which r_address lies, or of entry 0 where it lies in none
abbrev pub place_of : Section → RawReloc → ℕ
place_of section reloc = entry_place section (if is_in_entry section reloc then reloc.address / 32 else 0)

-- the function, the personality and the lsda of an entry have relocations
abbrev pub is_field : ℕ → Bool
is_field address = address % 32 == 0 || address % 32 == 16 || address % 32 == 24

-- a relocation other than the first pointer of a field, after those before it
abbrev pub is_other : Section → List RawReloc → RawReloc → Bool
is_other section before reloc =
    not (is_pointer reloc && is_in_entry section reloc && is_field reloc.address) || is_some (pointer_at before reloc.address)

abbrev pub other_relocation : UnwindRule
other_relocation = record {
  count = λ section. length section.relocs;
  fails = λ object section k. option_map_or (is_other section (take k section.relocs)) (slice_get section.relocs k) false;
  place = λ section k. option_map_or (place_of section) (slice_get section.relocs k) section.file_offset;
}

-- a test of an entry and the relocations of its fields
abbrev pub EntryTest : Type 0
EntryTest = Object → CompactUnwindEntry → EntryRelocs → Bool

-- no relocation tells the function
abbrev pub has_no_function : EntryTest
has_no_function object entry relocs = is_none relocs.function

-- the function isn't in a linked section of this object in __TEXT
abbrev pub has_bad_function : EntryTest
has_bad_function object entry relocs =
    option_map_or (λ reloc. not (option_map_or (λ spot. spot.in_text) (pointee object entry.function reloc) false)) relocs.function false

-- the lsda isn't in a linked section of this object
abbrev pub has_bad_lsda : EntryTest
has_bad_lsda object entry relocs = option_map_or (λ reloc. is_none (pointee object entry.lsda reloc)) relocs.lsda false

-- no symbol has the number, or one that may not be named: one that is passed over, that is a number and no place, or
-- that only its own object sees and that stands in a section that isn't linked
abbrev pub is_bad_name : Object → ℕ → Bool
is_bad_name object number =
    option_map_or (λ symbol. is_unnameable object.sections symbol || is_absolute symbol.kind) (slice_get object.symbols number) true

-- the personality may not be named, or, by address, isn't in a linked section of this object
abbrev pub is_bad_personality : Object → ℕ → RawReloc → Bool
is_bad_personality object held reloc = if reloc.external then is_bad_name object reloc.number else is_none (spot_at object reloc.number held)

abbrev pub has_bad_personality : EntryTest
has_bad_personality object entry relocs = option_map_or (is_bad_personality object entry.personality) relocs.personality false

abbrev pub entry_tests : List EntryTest
entry_tests = has_no_function ∷ has_bad_function ∷ has_bad_lsda ∷ has_bad_personality ∷ []

abbrev pub entry_rule : EntryTest → UnwindRule
entry_rule test = record {
  count = entry_count;
  fails = λ object section i. test object (entry_at section i) (entry_relocs section i);
  place = entry_place;
}

-- the parts of the rule that are asked of one section
abbrev pub section_rules : List UnwindRule
section_rules = not_whole ∷ other_relocation ∷ map entry_rule entry_tests

-- the places at which a part fails
abbrev pub faults_of : Object → Section → UnwindRule → List ℕ
faults_of object section rule =
    filter_map (λ k. when (rule.fails object section k) (rule.place section k)) (range_with_len 0 (rule.count section))

-- the places at which they fail in a section
unfoldable pub section_faults : Object → Section → List ℕ
section_faults object section = if has_entries section then flat_map (faults_of object section) section_rules else []

-- an entry fails a test
abbrev pub fails_test : Object → CompactUnwindEntry → EntryRelocs → Bool
fails_test object entry relocs = list_any (λ test. test object entry relocs) entry_tests
