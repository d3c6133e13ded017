-- What an object may have that the linker doesn't.
use Rattle.std.specs.Prelude.{ℕ, ◌==◌, ◌&&◌, ◌||◌, Bool, false, not, nat_lt, nat_eq, bit_and, nat_le, List, codes, Option, Some, None, if◌then◌else◌}
use Rattle.std.specs.List.{list_any, starts_with}
use Rattle.std.specs.Str.{bytes_eq}
use Rattle.mo_format.specs.declared.loader.TheConstants.{S_16BYTE_LITERALS, S_8BYTE_LITERALS, S_ATTR_PURE_INSTRUCTIONS, S_MOD_INIT_FUNC_POINTERS, S_REGULAR, S_THREAD_LOCAL_REGULAR, S_THREAD_LOCAL_VARIABLES, S_THREAD_LOCAL_ZEROFILL}
use Rattle.mo_types.specs.RelocationRules.{is_absolute}
use Rattle.mo_types.specs.Whole.{is_dropped, is_zerofill}
use Rattle.mo_types.specs.declared.cause.Feature.{Feature}
use Rattle.mo_types.specs.declared.cause.Feature.TheVariants as feature
use Rattle.mo_types.specs.declared.object.Object.{Object}
use Rattle.mo_types.specs.declared.object.Section.{Section}
use Rattle.mo_types.specs.declared.object.Symbol.{Symbol}
use Rattle.mo_types.specs.declared.object.SymbolKind.{SymbolKind}
use Rattle.mo_types.specs.declared.object.SymbolKind.TheVariants.{Common}

-- The types of sections that are linked (`loader.h`): from S_REGULAR to S_8BYTE_LITERALS S_ZEROFILL,
-- S_CSTRING_LITERALS and S_4BYTE_LITERALS stand too
abbrev pub is_linked_type : ℕ → Bool
is_linked_type kind =
    nat_le kind S_8BYTE_LITERALS || kind == S_MOD_INIT_FUNC_POINTERS || kind == S_16BYTE_LITERALS || kind == S_THREAD_LOCAL_REGULAR
    || kind == S_THREAD_LOCAL_ZEROFILL || kind == S_THREAD_LOCAL_VARIABLES

abbrev pub is_in : List ℕ → Section → Bool
is_in segment section = bytes_eq section.segment segment

abbrev pub has_other_type : Section → Bool
has_other_type section = not (is_linked_type section.kind)

abbrev pub is_objc : Section → Bool
is_objc section = starts_with nat_eq section.name (codes "__objc_")

-- the greatest alignment is 2^14, a page
abbrev pub is_overaligned : Section → Bool
is_overaligned section = nat_lt 14 section.align

abbrev pub is_overaligned_common : SymbolKind → Bool
is_overaligned_common (Common align size) = nat_lt 14 align
is_overaligned_common _ = false

abbrev pub is_code : Section → Bool
is_code section = not (bit_and section.attributes S_ATTR_PURE_INSTRUCTIONS == 0)

-- code outside `__TEXT`, or of another type than S_REGULAR
abbrev pub is_odd_code : Section → Bool
is_odd_code section = is_code section && (not (is_in (codes "__TEXT") section) || not (section.kind == S_REGULAR))

abbrev pub is_thread_local : Section → Bool
is_thread_local section =
    section.kind == S_THREAD_LOCAL_REGULAR || section.kind == S_THREAD_LOCAL_ZEROFILL || section.kind == S_THREAD_LOCAL_VARIABLES

-- a segment of the linker's own, or thread-local variables outside `__DATA`
abbrev pub has_odd_segment : Section → Bool
has_odd_segment section =
    is_in (codes "__LINKEDIT") section || is_in (codes "__PAGEZERO") section
    || (is_thread_local section && not (is_in (codes "__DATA") section))

abbrev pub is_text_zerofill : Section → Bool
is_text_zerofill section = is_zerofill section.kind && is_in (codes "__TEXT") section

abbrev pub is_external_absolute : Symbol → Bool
is_external_absolute symbol = symbol.external && is_absolute symbol.kind

-- a linked section passes a test
abbrev pub any_kept : (Section → Bool) → List Section → Bool
any_kept test sections = list_any (λ section. not (is_dropped section) && test section) sections

abbrev pub any_overaligned : Object → Bool
any_overaligned object =
    any_kept is_overaligned object.sections || list_any (λ symbol. is_overaligned_common symbol.kind) object.symbols

abbrev pub or_else : Bool → Feature → Option Feature → Option Feature
or_else test feature others = if test then Some feature else others

-- Absolute also stands where a relocation names an absolute symbol; PointerAuth is of relocations alone
abbrev pub last_feature : Object → Option Feature → Option Feature
last_feature object relocs =
    or_else (list_any is_external_absolute object.symbols) feature.Absolute relocs

-- The first of the features that stands, where `foreign` says that a symbol is of a kind that isn't linked, and
-- `relocs` what a relocation has: an absolute symbol's name, or an authenticated pointer.
unfoldable pub first_feature : Object → Bool → Option Feature → Option Feature
first_feature object foreign relocs =
    or_else (any_kept has_other_type object.sections) feature.SectionType
    (or_else (any_kept is_objc object.sections) feature.ObjcSection
    (or_else (any_overaligned object) feature.Alignment
    (or_else (any_kept is_odd_code object.sections) feature.CodeSegment
    (or_else (any_kept has_odd_segment object.sections) feature.SegmentName
    (or_else (any_kept is_text_zerofill object.sections) feature.TextZerofill
    (or_else foreign feature.SymbolKind
    (last_feature object relocs)))))))
