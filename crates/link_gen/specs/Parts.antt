-- The section of an object and its relocations (`reloc.h`: relocation_info).
use Rattle.std.specs.Prelude.{ℕ, ◌+◌, ◌*◌, ◌/◌, ◌%◌, ◌==◌, ◌&&◌, not, nat_lt, true, List, length, map, if◌then◌else◌}
use Rattle.std.specs.List.{range_with_len}
use Rattle.mo_format.specs.declared.reloc.TheConstants.{ARM64_RELOC_BRANCH26}
use Rattle.mo_format.specs.declared.relocation.RelocationInfo.{RelocationInfo}
use Rattle.link_gen.specs.Calls.{called, first_function, function_count, own_weaks}
use Rattle.link_gen.specs.Symbols.{number_of, symbols_of}
use Rattle.link_gen.specs.declared.calls.MadeObject.{MadeObject}
use Rattle.link_gen.specs.declared.text.TheConstants.{BL, RET}

-- the bytes of the section: 16 a function, and 4 a weak function
abbrev pub text_size : MadeObject → ℕ
text_size made = 16 * function_count made + 4 * length (own_weaks made)

-- the instruction of a number: each function is three `bl` and a `ret`, and each weak function behind them a `ret`
unfoldable pub instruction : MadeObject → ℕ → ℕ
instruction made k = if nat_lt k (4 * function_count made) && not (k % 4 == 3) then BL else RET

abbrev pub instructions : MadeObject → List ℕ
instructions made = map (instruction made) (range_with_len 0 (4 * function_count made + length (own_weaks made)))

-- The relocation of a `bl` at a place, which leads to the symbol of a number: r_pcrel 1, r_length 2, r_extern 1.
abbrev pub branch : ℕ → ℕ → RelocationInfo
branch place number =
    record { r_address = place; r_symbolnum = number; r_pcrel = true; r_length = 2; r_extern = true; r_type = ARM64_RELOC_BRANCH26 }

-- the relocation of a call, of which each function has three
unfoldable pub relocation : MadeObject → ℕ → RelocationInfo
relocation made r =
    branch (16 * (r / 3) + 4 * (r % 3)) (number_of (symbols_of made) (called made.count (first_function made + r / 3) (r % 3)))

abbrev pub relocations : MadeObject → List RelocationInfo
relocations made = map (relocation made) (range_with_len 0 (3 * function_count made))
