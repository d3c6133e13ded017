-- The references of an object, one for each row of the table of relocations, or what keeps them from being
-- read.
use Rattle.std.specs.Prelude.{ℕ, ◌+◌, ◌-◌, ◌^◌, ◌==◌, ◌&&◌, ◌||◌, Bool, false, not, nat_lt, ℤ, pos, negsuc, List, [], ◌∷◌, ◌++◌, length, slice_get, Option, Some, None, Result, Ok, Err, if◌then◌else◌}
use Rattle.std.specs.Int.{w32, w64, cast_signed}
use Rattle.std.specs.List.{list_any, range_with_len, filter_map}
use Rattle.std.specs.Option.{option_map, option_map_or, option_and_then}
use Rattle.mo_format.specs.declared.reloc.TheConstants.{ARM64_RELOC_UNSIGNED}
use Rattle.mo_types.specs.declared.cause.Feature.TheVariants.{Absolute, PointerAuth}
use Rattle.mo_types.specs.declared.key.FileId.{FileId}
use Rattle.mo_types.specs.declared.object.RawReloc.{RawReloc}
use Rattle.mo_types.specs.declared.object.Section.{Section}
use Rattle.mo_types.specs.declared.object.Symbol.{Symbol}
use Rattle.mo_types.specs.declared.object.Object.{Object}
use Rattle.mo_types.specs.declared.reference.FieldRange.{FieldRange}
use Rattle.mo_types.specs.declared.reference.Ref.{Ref}
use Rattle.mo_types.specs.declared.reference.RefKind.{RefKind}
use Rattle.mo_types.specs.declared.reference.Target.{Target}
use Rattle.mo_types.specs.declared.reference.Target.TheVariants.{Name, Local}
use Rattle.mo_types.specs.declared.reference_fault.RefFault.{RefFault}
use Rattle.mo_types.specs.declared.reference_fault.RefFault.TheVariants.{BadPair, BadShape, BadPlace, BadTarget, Unsupported, OutOfMemory}
use Rattle.mo_types.specs.Atoms.{cut_of}
use Rattle.mo_types.specs.RelocationRules.{field_at, field_number, first_fault, pair_fault, shape_fault, place_fault, target_fault, section_numbered, is_absolute}
use Rattle.mo_types.specs.Rows.{is_subtractor, is_authenticated, first_before, last_at, kind_at}
use Rattle.mo_types.specs.Whole.{is_dropped}

-- a number of 24 bits in two's complement
abbrev pub signed_24 : ℕ → ℤ
signed_24 number = if nat_lt number (2 ^ 23) then pos number else negsuc (2 ^ 24 - 1 - number)

-- the number in a field, in two's complement
abbrev pub field_signed : List ℕ → FieldRange → ℤ
field_signed bytes field = cast_signed (if field.size == 4 then w32 else w64) (field_number bytes field)

-- the atom and offset of an address in the object, in the section of a number
abbrev pub place_of : Object → FileId → ℕ → ℕ → Section → Target
place_of object file number address section =
    let cut = cut_of object number section (address - section.address) in
    Local (record { file = file; section = number; offset = cut }) (address - section.address - cut)

-- where a relocation leads: to the symbol of its number, or to the address that its field holds
abbrev pub target_of : Object → FileId → List ℕ → FieldRange → RawReloc → Option Target
target_of object file bytes field reloc =
    if reloc.external then Some (Name reloc.number)
    else option_map (place_of object file reloc.number (field_number bytes field)) (section_numbered object.sections reloc.number)

-- what a SUBTRACTOR subtracts
abbrev pub minus_of : Option RawReloc → Option Target
minus_of None = None
minus_of (Some first) = if is_subtractor first then Some (Name first.number) else None

-- what is added to the target: what the field of an UNSIGNED of a symbol holds, or the number of an ADDEND
abbrev pub addend_of : List ℕ → FieldRange → Option RawReloc → RawReloc → ℤ
addend_of bytes field first reloc =
    if reloc.kind == ARM64_RELOC_UNSIGNED then (if reloc.external then field_signed bytes field else pos 0)
    else option_map_or (λ addend. signed_24 addend.number) first (pos 0)

-- the reference of a row of a section
abbrev pub reference : Object → FileId → ℕ → Section → Option RawReloc → RawReloc → RefKind → FieldRange → Option Ref
reference object file number section first reloc kind field =
    let cut = cut_of object number section field.offset in
    option_map (λ target. record {
      atom = record { file = file; section = number; offset = cut };
      place = field.offset - cut;
      file_place = section.file_offset + field.offset;
      kind = kind;
      target = target;
      minus = minus_of first;
      addend = addend_of section.bytes field first reloc;
    }) (target_of object file section.bytes field reloc)

-- the reference of the row that ends at a place
unfoldable pub reference_at : Object → FileId → ℕ → Section → ℕ → Option Ref
reference_at object file number section at =
    option_and_then
    (λ reloc. option_and_then
    (λ kind. option_and_then (reference object file number section (first_before section.relocs at) reloc kind) (field_at section.relocs at))
    (kind_at section.relocs at))
    (last_at section.relocs at)

unfoldable pub section_refs : Object → FileId → ℕ → Section → List Ref
section_refs object file number section =
    if is_dropped section then [] else filter_map (reference_at object file number section) (range_with_len 0 (length section.relocs))

-- the references of the sections whose numbers begin with a number
abbrev pub refs_from : Object → FileId → ℕ → List Section → List Ref
refs_from object file number [] = []
refs_from object file number (section ∷ sections) = section_refs object file number section ++ refs_from object file (number + 1) sections

-- a row names a symbol that is a number and no place
abbrev pub names_absolute : List Symbol → RawReloc → Bool
names_absolute symbols reloc = reloc.external && option_map_or (λ symbol. is_absolute symbol.kind) (slice_get symbols reloc.number) false

abbrev pub row_names_absolute : List Symbol → Option RawReloc → RawReloc → Bool
row_names_absolute symbols None reloc = names_absolute symbols reloc
row_names_absolute symbols (Some first) reloc = is_subtractor first && names_absolute symbols first || names_absolute symbols reloc

-- a linked section passes a test
abbrev pub any_linked : (Section → Bool) → Object → Bool
any_linked test object = list_any (λ section. not (is_dropped section) && test section) object.sections

-- a relocation names a symbol that is a number and no place
unfoldable pub has_absolute : Object → Bool
has_absolute object =
    any_linked
    (λ section. list_any (λ at. option_map_or (row_names_absolute object.symbols (first_before section.relocs at)) (last_at section.relocs at) false)
    (range_with_len 0 (length section.relocs)))
    object

-- a relocation is an authenticated pointer
unfoldable pub has_authenticated : Object → Bool
has_authenticated object = any_linked (λ section. list_any is_authenticated section.relocs) object

-- the fault of a rule where it fails, or what follows
abbrev pub or_fault : (ℕ → RefFault) → Option ℕ → Result (List Ref) RefFault → Result (List Ref) RefFault
or_fault fault None rest = rest
or_fault fault (Some place) rest = Err (fault place)

-- the features that the linker doesn't have, in their order
abbrev pub or_unsupported : Object → Result (List Ref) RefFault → Result (List Ref) RefFault
or_unsupported object refs =
    if has_absolute object then Err (Unsupported Absolute)
    else if has_authenticated object then Err (Unsupported PointerAuth) else refs

-- The references of an object, or the first rule that its relocations don't keep, at the least place at
-- which it fails, or the first feature that the linker doesn't have.
unfoldable pub refs_of : Object → FileId → Result (List Ref) RefFault
refs_of object file =
    or_fault BadPair (first_fault pair_fault object)
    (or_fault BadShape (first_fault shape_fault object)
    (or_fault BadPlace (first_fault place_fault object)
    (or_fault BadTarget (first_fault target_fault object)
    (or_unsupported object (Ok (refs_from object file 1 object.sections))))))

-- a fault that the object has
abbrev pub IsRefFault : RefFault → Type 0
IsRefFault OutOfMemory = ⊥
IsRefFault _ = Unit {0}
