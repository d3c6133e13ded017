-- The ranges of entries are some, and end where there is room.
use Rattle.std.proofs.Common.{◌≡◌, ℕ, ◌+◌, ◌-◌, ◌^◌, ◌<◌, ◌≤◌, [], min, slice_get, Bool, true, false, ltb, Option, Some, None, refl, subst, arith, if◌then◌else◌}
use Rattle.std.specs.List.{filter_map, range_with_len}
use Rattle.std.specs.Option.{option_and_then, option_map}
use Rattle.std.proofs.lemmas.Option.{option_and_then_some}
use Rattle.list_lemmas.proofs.Members.{In, from_filter_map, from_flat}
use Rattle.mo_types.specs.declared.key.FileId.{FileId}
use Rattle.mo_types.specs.declared.object.Object.{Object}
use Rattle.mo_types.specs.declared.object.RawReloc.{RawReloc}
use Rattle.mo_types.specs.declared.object.Section.{Section}
use Rattle.mo_types.specs.declared.object.SymbolKind.{SymbolKind}
use Rattle.mo_types.specs.declared.object.SymbolKind.TheVariants.{Undefined, Common, Defined, Absolute, Passed}
use Rattle.mo_types.specs.Atoms.{is_cut}
use Rattle.mo_types.specs.RelocationRules.{section_numbered}
use Rattle.mo_types.specs.Rows.{when}
use Rattle.mo_types.specs.Whole.{IsWhole}
use Rattle.unwind_read.specs.declared.entry.CompactUnwindEntry.{CompactUnwindEntry}
use Rattle.unwind_read.specs.declared.pointers.EntryRelocs.{EntryRelocs}
use Rattle.unwind_read.specs.declared.spans.Span.{Span}
use Rattle.unwind_read.specs.declared.spots.Spot.{Spot}
use Rattle.unwind_read.specs.Rules.{entry_at, entry_count, entry_place, entry_relocs, fails_test, has_entries}
use Rattle.unwind_read.specs.Spots.{definition_at, end_of, holds, least_from, moved, pointee, spot_at, spot_of}
use Rattle.unwind_read.specs.Unwinds.{function_of, kept_function, length_of, section_spans, span_at, span_with, spans_of}
use Rattle.unwind_read.proofs.PartLemmas.{kept_part, no_some, some_is}
use Rattle.unwind_read.proofs.SpotLemmas.{small_section}

-- a place's atom ends where there is room

lesser_end : (a b : ℕ) → a < 2 ^ 63 → min a b < 2 ^ 63
lesser_end a b small = omega arith

end_room : (object : Object) (number address : ℕ) (section : Section) → section.size < 2 ^ 63 → (spot_of object number address section).end < 2 ^ 63
unfolding spot_of end_of
end_room object number address section small =
    lesser_end section.size (least_from (is_cut object number section) (address - section.address + 1) (section.size - (address - section.address))) small

spot_room : (object : Object) (number address : ℕ) (spot : Spot) → IsWhole object → spot_at object number address ≡ Some spot → spot.end < 2 ^ 63
spot_room object number address spot whole e =
    option_and_then_some (λ section. when (holds section address) (spot_of object number address section)) (section_numbered object.sections number) spot e (λ section has is. by section has (holds section address) is)
  where
    by : (section : Section) → section_numbered object.sections number ≡ Some section → (b : Bool) → when b (spot_of object number address section) ≡ Some spot → spot.end < 2 ^ 63
    by section has true is = subst (λ (s : Spot). s.end < 2 ^ 63) (some_is (spot_of object number address section) spot is) (end_room object number address section (small_section object number section whole has))
    by section has false is = no_some spot is

definition_room : (object : Object) (held : ℕ) (kind : SymbolKind) (spot : Spot) → IsWhole object → definition_at object held kind ≡ Some spot → spot.end < 2 ^ 63
definition_room object held (Defined section value) spot whole e = option_and_then_some (spot_at object section) (moved value held) spot e (λ address has is. spot_room object section address spot whole is)
definition_room object held Undefined spot whole e = no_some spot e
definition_room object held (Common align size) spot whole e = no_some spot e
definition_room object held Absolute spot whole e = no_some spot e
definition_room object held Passed spot whole e = no_some spot e

pointee_room : (object : Object) (held : ℕ) (reloc : RawReloc) (spot : Spot) → IsWhole object → pointee object held reloc ≡ Some spot → spot.end < 2 ^ 63
unfolding pointee
pointee_room object held reloc spot whole e = by reloc.external e
  where
    by : (b : Bool) → (if b then option_and_then (λ symbol. definition_at object held symbol.kind) (slice_get object.symbols reloc.number) else spot_at object reloc.number held) ≡ Some spot → spot.end < 2 ^ 63
    by true is = option_and_then_some (λ symbol. definition_at object held symbol.kind) (slice_get object.symbols reloc.number) spot is (λ symbol has there. definition_room object held symbol.kind spot whole there)
    by false is = spot_room object reloc.number held spot whole is

function_room : (object : Object) (entry : CompactUnwindEntry) (relocs : EntryRelocs) (function : Spot) → IsWhole object → kept_function object entry relocs ≡ Some function → function.end < 2 ^ 63
unfolding kept_function
function_room object entry relocs function whole e = by (fails_test object entry relocs) e
  where
    sized : (x : Spot) (b : Bool) → when b x ≡ Some function → x.end < 2 ^ 63 → function.end < 2 ^ 63
    sized x true is room = subst (λ (s : Spot). s.end < 2 ^ 63) (some_is x function is) room
    sized x false is room = no_some function is

    by : (b : Bool) → (if b then None else option_and_then (λ f. when (ltb 0 (length_of entry f)) f) (function_of object entry relocs)) ≡ Some function → function.end < 2 ^ 63
    by true is = no_some function is
    by false is = option_and_then_some (λ f. when (ltb 0 (length_of entry f)) f) (function_of object entry relocs) function is (λ x has there.
        sized x (ltb 0 (length_of entry x)) there (option_and_then_some (pointee object entry.function) relocs.function x has (λ reloc is_there to. pointee_room object entry.function reloc x whole to)))

-- the range of an entry

pub record HasRoom (span : Span) : Type 0 where
  pub some : span.from < span.to
  pub room : span.to < 2 ^ 63

any_file : FileId
any_file = record { position = 0; member = 0 }

with_room : (object : Object) (place : ℕ) (entry : CompactUnwindEntry) (relocs : EntryRelocs) (spot : Spot) → IsWhole object → kept_function object entry relocs ≡ Some spot → HasRoom (span_with place entry spot)
with_room object place entry relocs spot whole e =
    let part = kept_part object any_file entry relocs spot e in
    let room : spot.end < 2 ^ 63 = function_room object entry relocs spot whole e in
    let high : spot.offset ≤ spot.end = part.0.high in
    let some : 0 < min entry.length (spot.end - spot.offset) = part.1 in
    record { some = omega arith; room = omega arith }

at_room : (object : Object) (section : Section) (i : ℕ) (span : Span) → IsWhole object → span_at object section i ≡ Some span → HasRoom span
unfolding span_at
at_room object section i span whole e = by (kept_function object (entry_at section i) (entry_relocs section i)) refl e
  where
    by : (o : Option Spot) → kept_function object (entry_at section i) (entry_relocs section i) ≡ o → option_map (span_with (entry_place section i) (entry_at section i)) o ≡ Some span → HasRoom span
    by None none is = no_some span is
    by (Some spot) has is = subst HasRoom (some_is (span_with (entry_place section i) (entry_at section i) spot) span is) (with_room object (entry_place section i) (entry_at section i) (entry_relocs section i) spot whole has)

section_room : (object : Object) (section : Section) (span : Span) → IsWhole object → In span (section_spans object section) → HasRoom span
unfolding section_spans
section_room object section span whole h = by (has_entries section) h
  where
    by : (b : Bool) → In span (if b then filter_map (span_at object section) (range_with_len 0 (entry_count section)) else []) → HasRoom span
    by true there = let it = from_filter_map (span_at object section) (range_with_len 0 (entry_count section)) span there in at_room object section it.0 span whole it.2
    by false there = absurd there

pub span_room : (object : Object) (span : Span) → IsWhole object → In span (spans_of object) → HasRoom span
span_room object span whole h = let it = from_flat (section_spans object) object.sections span h in section_room object it.0 span whole it.2
