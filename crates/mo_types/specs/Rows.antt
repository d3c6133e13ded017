-- The table of relocations (`mach-o/arm64/reloc.h`): which of them make up a row, and what a row becomes.
use Rattle.std.specs.Prelude.{ℕ, ◌-◌, ◌==◌, ◌&&◌, ◌||◌, Bool, true, false, not, List, slice_get, Option, Some, None, if◌then◌else◌}
use Rattle.std.specs.Option.{option_and_then}
use Rattle.mo_format.specs.declared.reloc.TheConstants.{ARM64_RELOC_ADDEND, ARM64_RELOC_AUTHENTICATED_POINTER, ARM64_RELOC_BRANCH26, ARM64_RELOC_GOT_LOAD_PAGE21, ARM64_RELOC_GOT_LOAD_PAGEOFF12, ARM64_RELOC_PAGE21, ARM64_RELOC_PAGEOFF12, ARM64_RELOC_POINTER_TO_GOT, ARM64_RELOC_SUBTRACTOR, ARM64_RELOC_TLVP_LOAD_PAGE21, ARM64_RELOC_TLVP_LOAD_PAGEOFF12, ARM64_RELOC_UNSIGNED}
use Rattle.mo_types.specs.declared.object.RawReloc.{RawReloc}
use Rattle.mo_types.specs.declared.reference.RefKind.{RefKind}
use Rattle.mo_types.specs.declared.reference.RefKind.TheVariants.{Pointer, Diff32, Diff64, Branch, Page, PageOff, GotPage, GotPageOff, GotDelta, GotPointer, TlvPage, TlvPageOff}

abbrev pub when : {A : Type 0} → Bool → A → Option A
when test x = if test then Some x else None

-- it stands before the relocation of what it is subtracted from
abbrev pub is_subtractor : RawReloc → Bool
is_subtractor reloc = reloc.kind == ARM64_RELOC_SUBTRACTOR

-- it stands before the relocation of what it is added to
abbrev pub is_addend : RawReloc → Bool
is_addend reloc = reloc.kind == ARM64_RELOC_ADDEND

-- that of a signed pointer
abbrev pub is_authenticated : RawReloc → Bool
is_authenticated reloc = reloc.kind == ARM64_RELOC_AUTHENTICATED_POINTER

-- the first of two relocations that make up one row
abbrev pub is_first : RawReloc → Bool
is_first reloc = is_subtractor reloc || is_addend reloc

-- the second one, of the same address
abbrev pub is_second : RawReloc → RawReloc → Bool
is_second first reloc =
    reloc.address == first.address
    && (if is_subtractor first then reloc.kind == ARM64_RELOC_UNSIGNED
    else reloc.kind == ARM64_RELOC_BRANCH26 || reloc.kind == ARM64_RELOC_PAGE21 || reloc.kind == ARM64_RELOC_PAGEOFF12)

-- the relocation just before a place, where it is the first of two
abbrev pub first_before : List RawReloc → ℕ → Option RawReloc
first_before relocs at = if at == 0 then None else option_and_then (λ reloc. when (is_first reloc) reloc) (slice_get relocs (at - 1))

-- the relocation at a place, where it ends a row: neither the first of two nor an authenticated pointer
abbrev pub last_at : List RawReloc → ℕ → Option RawReloc
last_at relocs at = option_and_then (λ reloc. when (not (is_first reloc) && not (is_authenticated reloc)) reloc) (slice_get relocs at)

-- r_pcrel 1, r_length 2, r_extern 1: the distance from the place to a symbol
abbrev pub is_distance : RawReloc → Bool
is_distance reloc = reloc.pcrel && reloc.length == 2 && reloc.external

-- r_pcrel 0, r_extern 1, and a length: what a symbol is
abbrev pub is_value : ℕ → RawReloc → Bool
is_value length reloc = not reloc.pcrel && reloc.length == length && reloc.external

-- what a relocation becomes alone or after an ADDEND, by r_type
abbrev pub kind_alone : RawReloc → Option RefKind
kind_alone reloc =
    if reloc.kind == ARM64_RELOC_UNSIGNED then when (not reloc.pcrel && reloc.length == 3) Pointer
    else if reloc.kind == ARM64_RELOC_BRANCH26 then when (is_distance reloc) Branch
    else if reloc.kind == ARM64_RELOC_PAGE21 then when (is_distance reloc) Page
    else if reloc.kind == ARM64_RELOC_PAGEOFF12 then when (is_value 2 reloc) PageOff
    else if reloc.kind == ARM64_RELOC_GOT_LOAD_PAGE21 then when (is_distance reloc) GotPage
    else if reloc.kind == ARM64_RELOC_GOT_LOAD_PAGEOFF12 then when (is_value 2 reloc) GotPageOff
    else if reloc.kind == ARM64_RELOC_POINTER_TO_GOT then (if is_distance reloc then Some GotDelta else when (is_value 3 reloc) GotPointer)
    else if reloc.kind == ARM64_RELOC_TLVP_LOAD_PAGE21 then when (is_distance reloc) TlvPage
    else if reloc.kind == ARM64_RELOC_TLVP_LOAD_PAGEOFF12 then when (is_value 2 reloc) TlvPageOff
    else None

-- what an UNSIGNED becomes after a SUBTRACTOR, both of one length
abbrev pub kind_of_difference : RawReloc → RawReloc → Option RefKind
kind_of_difference subtractor reloc =
    if not subtractor.pcrel && subtractor.external && not reloc.pcrel && subtractor.length == reloc.length
    then (if reloc.length == 2 then Some Diff32 else when (reloc.length == 3) Diff64)
    else None

-- what a row becomes, of its relocation and the one before it
unfoldable pub kind_of : Option RawReloc → RawReloc → Option RefKind
kind_of None reloc = kind_alone reloc
kind_of (Some first) reloc = if is_subtractor first then kind_of_difference first reloc else kind_alone reloc

-- what the row that ends at a place becomes
unfoldable pub kind_at : List RawReloc → ℕ → Option RefKind
kind_at relocs at = option_and_then (kind_of (first_before relocs at)) (last_at relocs at)

-- the bytes of a field
abbrev pub field_size : RefKind → ℕ
field_size Pointer = 8
field_size Diff64 = 8
field_size GotPointer = 8
field_size _ = 4

-- whether a field is part of an instruction
abbrev pub is_instruction : RefKind → Bool
is_instruction Pointer = false
is_instruction Diff32 = false
is_instruction Diff64 = false
is_instruction GotDelta = false
is_instruction GotPointer = false
is_instruction _ = true
