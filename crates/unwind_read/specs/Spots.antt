-- Where the fields of an entry lead: places in the atoms of linked sections.
use Rattle.std.specs.Prelude.{ℕ, zero, suc, ◌+◌, ◌-◌, ◌^◌, ◌≤◌, ◌<◌, ◌&&◌, Bool, not, nat_lt, nat_le, min, codes, slice_get, Option, Some, None, if◌then◌else◌}
use Rattle.std.specs.Option.{option_and_then}
use Rattle.std.specs.Str.{bytes_eq}
use Rattle.mo_types.specs.declared.object.Object.{Object}
use Rattle.mo_types.specs.declared.object.RawReloc.{RawReloc}
use Rattle.mo_types.specs.declared.object.Section.{Section}
use Rattle.mo_types.specs.declared.object.SymbolKind.{SymbolKind}
use Rattle.mo_types.specs.declared.object.SymbolKind.TheVariants.{Defined}
use Rattle.mo_types.specs.Atoms.{cut_of, is_cut}
use Rattle.mo_types.specs.RelocationRules.{is_within, section_numbered}
use Rattle.mo_types.specs.Rows.{when}
use Rattle.mo_types.specs.Whole.{is_dropped}
use Rattle.unwind_read.specs.declared.spots.Spot.{Spot}

-- the first of n numbers from one on that passes a test, or the number behind them
abbrev pub least_from : (ℕ → Bool) → ℕ → ℕ → ℕ
least_from test at zero = at
least_from test at (suc n) = if test at then at else least_from test (at + 1) n

-- where the atom ends to which an offset of a section belongs: at the next cut, or at the section's end
unfoldable pub end_of : Object → ℕ → Section → ℕ → ℕ
end_of object number section offset = min section.size (least_from (is_cut object number section) (offset + 1) (section.size - offset))

-- the place of an address in the section of a number
unfoldable pub spot_of : Object → ℕ → ℕ → Section → Spot
spot_of object number address section =
    let offset = address - section.address in
    record {
      section = number;
      start = cut_of object number section offset;
      offset = offset;
      end = end_of object number section offset;
      in_text = bytes_eq section.segment (codes "__TEXT");
    }

-- an address of a linked section, its end included
abbrev pub holds : Section → ℕ → Bool
holds section address = not (is_dropped section) && is_within section address

-- the same, where the section is linked and holds the address
abbrev pub spot_at : Object → ℕ → ℕ → Option Spot
spot_at object number address =
    option_and_then (λ section. when (holds section address) (spot_of object number address section)) (section_numbered object.sections number)

-- an address moved by a number of 64 bits in two's complement, unless it falls below 0
abbrev pub moved : ℕ → ℕ → Option ℕ
moved address by =
    if nat_lt by (2 ^ 63) then Some (address + by) else when (nat_le (2 ^ 64 - by) address) (address - (2 ^ 64 - by))

-- the place of a definition, moved by what the field holds
abbrev pub definition_at : Object → ℕ → SymbolKind → Option Spot
definition_at object held (Defined section value) = option_and_then (spot_at object section) (moved value held)
definition_at object held _ = None

-- Where a field that holds a number leads: to the object's own definition of the symbol that the relocation names, or
-- to the address, in the section of the relocation's number.
unfoldable pub pointee : Object → ℕ → RawReloc → Option Spot
pointee object held reloc =
    if reloc.external then option_and_then (λ symbol. definition_at object held symbol.kind) (slice_get object.symbols reloc.number)
    else spot_at object reloc.number held

-- a place from its atom's start to its end
pub record IsSpot (spot : Spot) : Type 0 where
  pub start : spot.start ≤ spot.offset
  pub end : spot.offset ≤ spot.end
  pub room : spot.end < 2 ^ 63
