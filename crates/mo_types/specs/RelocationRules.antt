-- The rules that the relocations of linked sections keep, each with the relocations at fault. Each rule is
-- asked where the ones before it hold.
use Rattle.std.specs.Prelude.{ℕ, ◌+◌, ◌-◌, ◌*◌, ◌%◌, ◌^◌, ◌==◌, ◌&&◌, ◌||◌, Bool, true, false, not, nat_lt, nat_le, min, List, [], ◌∷◌, ◌++◌, length, drop, slice_get, Option, Some, None, is_some, is_none, if◌then◌else◌}
use Rattle.std.specs.Int.{w32, w64, from_le_bytes}
use Rattle.std.specs.List.{list_any, range_with_len, filter_map}
use Rattle.std.specs.Option.{option_map, option_map_or, option_and_then}
use Rattle.mo_types.specs.declared.object.RawReloc.{RawReloc}
use Rattle.mo_types.specs.declared.object.Section.{Section}
use Rattle.mo_types.specs.declared.object.Symbol.{Symbol}
use Rattle.mo_types.specs.declared.object.SymbolKind.{SymbolKind}
use Rattle.mo_types.specs.declared.object.SymbolKind.TheVariants.{Defined, Passed, Absolute}
use Rattle.mo_types.specs.declared.object.Object.{Object}
use Rattle.mo_types.specs.declared.reference.FieldRange.{FieldRange}
use Rattle.mo_types.specs.declared.reference.RefKind.{RefKind}
use Rattle.mo_types.specs.Atoms.{cut_of}
use Rattle.mo_types.specs.Rows.{when, is_first, is_second, is_subtractor, first_before, last_at, kind_at, field_size, is_instruction}
use Rattle.mo_types.specs.Whole.{is_dropped, is_zerofill, is_strings, literal_size}

-- a rule answers for a place of a section's relocations which relocation is at fault there
abbrev pub RelocationRule : Type 0
RelocationRule = Object → ℕ → Section → ℕ → Option ℕ

-- Pair: the first of two relocations isn't followed at once by the second
unfoldable pub pair_fault : RelocationRule
pair_fault object number section at =
    option_and_then
    (λ reloc. when (is_first reloc && not (option_map_or (is_second reloc) (slice_get section.relocs (at + 1)) false)) at)
    (slice_get section.relocs at)

-- the first relocation of the row that ends at a place
abbrev pub row_start : List RawReloc → ℕ → ℕ
row_start relocs at = if is_some (first_before relocs at) then at - 1 else at

-- Shape: a row that the table doesn't have; a pair of a SUBTRACTOR is at fault at its first relocation
unfoldable pub shape_fault : RelocationRule
shape_fault object number section at =
    option_and_then
    (λ reloc. when (is_none (kind_at section.relocs at)) (if option_map_or is_subtractor (first_before section.relocs at) false then at - 1 else at))
    (last_at section.relocs at)

-- the field of the row that ends at a place; r_address is signed, and there is no field below the section
unfoldable pub field_at : List RawReloc → ℕ → Option FieldRange
field_at relocs at =
    option_and_then
    (λ kind. option_and_then (λ reloc. when (nat_lt reloc.address (2 ^ 31)) (record { offset = reloc.address; size = field_size kind }))
    (slice_get relocs at))
    (kind_at relocs at)

-- both have a byte
abbrev pub overlap : FieldRange → FieldRange → Bool
overlap a b = nat_lt a.offset (b.offset + b.size) && nat_lt b.offset (a.offset + a.size)

-- the field of another row of the section overlaps this one
abbrev pub overlaps_another : List RawReloc → ℕ → FieldRange → Bool
overlaps_another relocs at field =
    list_any (λ other. not (other == at) && option_map_or (overlap field) (field_at relocs other) false)
    (range_with_len 0 (length relocs))

-- the field's first byte and its last belong to one atom
abbrev pub is_in_one_atom : Object → ℕ → Section → FieldRange → Bool
is_in_one_atom object number section field =
    nat_le (field.offset + field.size) section.size
    && cut_of object number section (field.offset + field.size - 1) == cut_of object number section field.offset

-- no field may lie in a section without contents of its own, or whose contents are shared with equal ones
abbrev pub has_fields : Section → Bool
has_fields section = not (is_zerofill section.kind) && not (is_strings section.kind) && is_none (literal_size section.kind)

abbrev pub is_bad_field : Object → ℕ → Section → ℕ → RefKind → FieldRange → Bool
is_bad_field object number section at kind field =
    not (is_in_one_atom object number section field) || (is_instruction kind && not (field.offset % 4 == 0))
    || overlaps_another section.relocs at field || not (has_fields section)

-- a row has no field, or a bad one
abbrev pub is_misplaced : Object → ℕ → Section → ℕ → RefKind → Bool
is_misplaced object number section at kind =
    option_map_or (is_bad_field object number section at kind) (field_at section.relocs at) true

-- Place: a field below the section's start, across atoms or outside them, of an instruction that isn't
-- aligned, over another field, or in a section that may have none
unfoldable pub place_fault : RelocationRule
place_fault object number section at =
    option_and_then (λ kind. when (is_misplaced object number section at kind) (row_start section.relocs at)) (kind_at section.relocs at)

-- the section of a number from 1
abbrev pub section_numbered : List Section → ℕ → Option Section
section_numbered sections number = if number == 0 then None else slice_get sections (number - 1)

-- a definition in a section that isn't linked
abbrev pub is_in_dropped : List Section → SymbolKind → Bool
is_in_dropped sections (Defined section value) = option_map_or is_dropped (section_numbered sections section) false
is_in_dropped sections _ = false

abbrev pub is_passed : SymbolKind → Bool
is_passed Passed = true
is_passed _ = false

abbrev pub is_absolute : SymbolKind → Bool
is_absolute Absolute = true
is_absolute _ = false

-- a symbol that a relocation may not name: one that is passed over, or that only its own object sees and that
-- stands in a section that isn't linked
abbrev pub is_unnameable : List Section → Symbol → Bool
is_unnameable sections symbol = is_passed symbol.kind || (not symbol.external && is_in_dropped sections symbol.kind)

-- the number in a field, without sign
unfoldable pub field_number : List ℕ → FieldRange → ℕ
field_number bytes field = from_le_bytes (if field.size == 4 then w32 else w64) (drop field.offset bytes)

-- an address from a section's start to its end
abbrev pub is_within : Section → ℕ → Bool
is_within section address = nat_le section.address address && nat_le address (section.address + section.size)

-- an address that no linked section of the number holds
abbrev pub is_outside : List Section → ℕ → ℕ → Bool
is_outside sections number address =
    option_map_or (λ section. is_dropped section || not (is_within section address)) (section_numbered sections number) true

-- a relocation that names no symbol or section that it may name, or an address outside its section
abbrev pub is_bad_target : Object → List ℕ → FieldRange → RawReloc → Bool
is_bad_target object bytes field reloc =
    if reloc.external then option_map_or (is_unnameable object.sections) (slice_get object.symbols reloc.number) true
    else is_outside object.sections reloc.number (field_number bytes field)

-- Target: the number of a SUBTRACTOR, or of the relocation that ends the row
unfoldable pub target_fault : RelocationRule
target_fault object number section at =
    option_and_then
    (λ field. option_and_then
    (λ reloc.
    if option_map_or (λ first. is_subtractor first && is_bad_target object section.bytes field first) (first_before section.relocs at) false
    then Some (at - 1) else when (is_bad_target object section.bytes field reloc) at)
    (last_at section.relocs at))
    (field_at section.relocs at)

-- the least of some numbers
abbrev pub least : List ℕ → Option ℕ
least [] = None
least (x ∷ xs) = Some (option_map_or (min x) (least xs) x)

-- the places in the object's bytes of a section's relocations at fault
unfoldable pub faults_in : RelocationRule → Object → ℕ → Section → List ℕ
faults_in rule object number section =
    if is_dropped section then []
    else filter_map (λ at. option_map (λ index. section.reloc_offset + 8 * index) (rule object number section at)) (range_with_len 0 (length section.relocs))

abbrev pub faults_from : RelocationRule → Object → ℕ → List Section → List ℕ
faults_from rule object number [] = []
faults_from rule object number (section ∷ sections) = faults_in rule object number section ++ faults_from rule object (number + 1) sections

-- the least place at which a rule fails
unfoldable pub first_fault : RelocationRule → Object → Option ℕ
first_fault rule object = least (faults_from rule object 1 object.sections)
