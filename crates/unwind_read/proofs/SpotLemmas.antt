-- The places to which fields lead.
use Rattle.std.proofs.Common.{◌≡◌, ℕ, ◌+◌, ◌-◌, ◌^◌, ◌<◌, ◌≤◌, length, slice_get, get_or, codes, Bool, true, false, not, Some, None, refl, subst, arith}
use Rattle.std.specs.Str.{bytes_eq}
use Rattle.std.proofs.lemmas.Bool.{and_parts, leb-true, not-true}
use Rattle.std.proofs.lemmas.Option.{get_or_from_slice_get, slice_get_within}
use Rattle.mo_types.specs.declared.object.Object.{Object}
use Rattle.mo_types.specs.declared.object.Section.{Section}
use Rattle.mo_types.specs.declared.object.Symbol.{Symbol}
use Rattle.mo_types.specs.declared.object.SymbolKind.TheVariants.{Defined}
use Rattle.mo_types.specs.Atoms.{cut_of}
use Rattle.mo_types.specs.RelocationRules.{is_within, section_numbered}
use Rattle.mo_types.specs.Whole.{IsDefinedWithin, IsDefinition, IsWhole, IsWholeSection, is_dropped}
use Rattle.reloc_read.proofs.LookupLemmas.{element_at}
use Rattle.unwind_read.specs.Spots.{end_of, holds, spot_at, spot_of}
use Rattle.unwind_read.proofs.EndLemmas.{whole_section}

parts : (section : Section) (address : ℕ) → holds section address ≡ true → (is_dropped section ≡ false) × (section.address ≤ address) × (address ≤ section.address + section.size)
parts section address e =
    let both : (not (is_dropped section) ≡ true) × (is_within section address ≡ true) = and_parts _ _ e in
    let ends = and_parts _ _ both.1 in
    (not-true (is_dropped section) both.0, leb-true section.address address ends.0, leb-true address (section.address + section.size) ends.1)

pub held_linked : (section : Section) (address : ℕ) → holds section address ≡ true → is_dropped section ≡ false
held_linked section address e = (parts section address e).0

pub held_low : (section : Section) (address : ℕ) → holds section address ≡ true → section.address ≤ address
held_low section address e = (parts section address e).1

pub held_within : (section : Section) (address : ℕ) → holds section address ≡ true → address - section.address ≤ section.size
held_within section address e =
    let low : section.address ≤ address = (parts section address e).1 in
    let high : address ≤ section.address + section.size = (parts section address e).2 in
    omega arith

pub spot_is : (object : Object) (number address : ℕ) (section : Section) (offset start end : ℕ) (text : Bool) → section_numbered object.sections number ≡ Some section → holds section address ≡ true → offset ≡ address - section.address → start ≡ cut_of object number section offset → end ≡ end_of object number section offset → text ≡ bytes_eq section.segment (codes "__TEXT") → Some (record { section = number; start = start; offset = offset; end = end; in_text = text }) ≡ spot_at object number address
unfolding spot_of
spot_is object number address section offset start end text has held is_offset is_start is_end is_text =
    rw (has, held) (rw (is_text, is_end, is_start, is_offset) refl)

pub no_section : (object : Object) (number address : ℕ) → section_numbered object.sections number ≡ None → None ≡ spot_at object number address
no_section object number address none = rw none refl

pub not_held : (object : Object) (number address : ℕ) (section : Section) → section_numbered object.sections number ≡ Some section → holds section address ≡ false → None ≡ spot_at object number address
not_held object number address section has none = rw (has, none) refl

pub small_section : (object : Object) (number : ℕ) (section : Section) → IsWhole object → section_numbered object.sections number ≡ Some section → section.size < 2 ^ 63
small_section object number section whole has =
    let is : IsWholeSection section = whole_section object number section whole has in
    let small : section.address + section.size < 2 ^ 63 = is.addresses in
    omega arith

pub ruleset spots = (held_linked, held_low, held_within, spot_is, no_section, not_held, small_section)

-- the address of a definition
pub defined_low : (object : Object) (number : ℕ) (symbol : Symbol) (section value : ℕ) → IsWhole object → slice_get object.symbols number ≡ Some symbol → symbol.kind ≡ Defined section value → value < 2 ^ 63
defined_low object number symbol section value whole has kind =
    let within : number < length object.symbols = slice_get_within object.symbols number symbol has in
    let is : get_or object.symbols number symbol ≡ symbol = get_or_from_slice_get object.symbols number symbol symbol has in
    let defined : IsDefinedWithin object.sections symbol.kind = subst (λ (s : Symbol). IsDefinedWithin object.sections s.kind) is (whole.symbols number symbol within) in
    let definition : IsDefinition object.sections section value = subst (IsDefinedWithin object.sections) kind defined in
    let numbered : 0 < section = definition.numbered in
    let among : section ≤ length object.sections = definition.among in
    let d : Section = element_at object.sections (section - 1) (omega arith) in
    let small : IsWholeSection (get_or object.sections (section - 1) d) = whole.sections (section - 1) d (omega arith) in
    let room : (get_or object.sections (section - 1) d).address + (get_or object.sections (section - 1) d).size < 2 ^ 63 = small.addresses in
    let high : value ≤ (get_or object.sections (section - 1) d).address + (get_or object.sections (section - 1) d).size = definition.high d in
    omega arith

pub ruleset pointees = (defined_low)
