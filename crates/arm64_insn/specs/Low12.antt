-- imm12, bits 10 to 21, of `ADD` (immediate) and of the loads and stores with an unsigned offset, by the Arm Architecture Reference Manual.
use Rattle.std.specs.Prelude.{◌≡◌, ℕ, ◌*◌, ◌/◌, ◌%◌, ◌^◌, Bool, ◌&&◌, ◌==◌, Option, Some, None, if◌then◌else◌}
use Rattle.arm64_insn.specs.Field.{field_at, with_field}

-- the word is of the class "Load/store register (unsigned immediate)": bits 27 to 29 are 111, and bits 24 and 25 are 01
abbrev pub is_unsigned_offset : ℕ → Bool
is_unsigned_offset word = field_at 27 3 word == 7 && field_at 24 2 word == 1

-- it loads or stores 128 bits: size, bits 30 and 31, is 00, V, bit 26, is 1, and so is the upper bit of opc, bit 23
abbrev pub is_128_bits : ℕ → Bool
is_128_bits word = field_at 30 2 word == 0 && field_at 26 1 word == 1 && field_at 23 1 word == 1

-- imm12 counts steps of 2 ^ imm12_scale bytes: the size of what is loaded or stored, and single bytes in any other word
unfoldable pub imm12_scale : ℕ → ℕ
imm12_scale word =
    if is_unsigned_offset word then (if is_128_bits word then 4 else field_at 30 2 word) else 0

-- the low 12 bits of the target are whole steps
abbrev pub IsWholeSteps : ℕ → ℕ → Type 0
IsWholeSteps word target = target % 2 ^ 12 % 2 ^ imm12_scale word ≡ 0

-- the word with the low 12 bits of the target, counted in steps, in imm12, and the other bits as before
unfoldable pub low12_word : ℕ → ℕ → ℕ
low12_word word target = with_field 10 12 word (target % 2 ^ 12 / 2 ^ imm12_scale word)

-- that word, where the low 12 bits are whole steps
abbrev pub put_low12 : ℕ → ℕ → Option ℕ
put_low12 word target =
    if target % 2 ^ 12 % 2 ^ imm12_scale word == 0 then Some (low12_word word target) else None

-- the bytes that imm12 stands for
unfoldable pub low12_of : ℕ → ℕ
low12_of word = field_at 10 12 word * 2 ^ imm12_scale word
