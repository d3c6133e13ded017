-- How many bytes the parts of an image's symbols have, by counts alone: of symbols, of the bytes of their names, and of
-- stubs and slots.
use Rattle.std.specs.Prelude.{ℕ, ◌+◌, ◌-◌, ◌*◌, ◌%◌, List, length}
use Rattle.std.specs.List.{sum_by}
use Rattle.slot_plan.specs.declared.list.Slots.{Slots}
use Rattle.sym_out.specs.Entries.{Entry}
use Rattle.sym_out.specs.Symbols.{Ranges}
use Rattle.sym_out.specs.declared.sizes.SymbolSizes.{SymbolSizes}

-- a name with its NUL
abbrev pub string_size : Entry → ℕ
string_size entry = length entry.name + 1

abbrev pub strings_size : List Entry → ℕ
strings_size entries = sum_by string_size entries

-- with zeros up to a multiple of eight bytes
abbrev pub padded_size : ℕ → ℕ
padded_size size = size + (8 - size % 8) % 8

-- 16 bytes a symbol, 4 a stub or slot, and the names behind one NUL
abbrev pub sizes_of : Slots → Ranges → SymbolSizes
sizes_of slots ranges = record {
  symbols = 16 * (length ranges.locals + length ranges.exported + length ranges.undefined);
  indirect = 4 * (length slots.stubs + length slots.got + length slots.tlv);
  strings = padded_size (1 + strings_size ranges.locals + strings_size ranges.exported + strings_size ranges.undefined);
}
