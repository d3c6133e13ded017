-- Rows that name a symbol that is a number and no place.
use Rattle.std.specs.Prelude.{ℕ, Bool, false, List, length}
use Rattle.std.specs.List.{list_any, range_with_len}
use Rattle.std.specs.Option.{option_map_or}
use Rattle.mo_types.specs.declared.object.RawReloc.{RawReloc}
use Rattle.mo_types.specs.declared.object.Section.{Section}
use Rattle.mo_types.specs.declared.object.Symbol.{Symbol}
use Rattle.mo_types.specs.Refs.{row_names_absolute}
use Rattle.mo_types.specs.Rows.{first_before, last_at}

-- the row that ends at a place does
abbrev pub row_names_absolute_at : List Symbol → List RawReloc → ℕ → Bool
row_names_absolute_at symbols relocs at = option_map_or (row_names_absolute symbols (first_before relocs at)) (last_at relocs at) false

-- a row of a section does
abbrev pub any_absolute : List Symbol → Section → Bool
any_absolute symbols section = list_any (row_names_absolute_at symbols section.relocs) (range_with_len 0 (length section.relocs))
