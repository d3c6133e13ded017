-- The fields of load commands that aren't as wide as what they hold, and strings behind commands (`loader.h`: lc_str).
use Rattle.std.specs.Prelude.{ℕ, ◌+◌, ◌-◌, ◌%◌, ◌^◌, List, ◌++◌, length, replicate, take}
use Rattle.mo_bytes.specs.Rounding.{least_multiple}

-- a number in a field of 4 bytes, which holds it modulo 2^32
abbrev pub u32_of : ℕ → ℕ
u32_of n = n % 2 ^ 32

-- a number in a field of 8 bytes, which holds it modulo 2^64
abbrev pub u64_of : ℕ → ℕ
u64_of n = n % 2 ^ 64

-- a name in a field of 16 bytes: the first 16 of a longer one, and zeros after a shorter one
unfoldable pub name_field : List ℕ → List ℕ
name_field name = take 16 name ++ replicate (16 - length name) 0

-- the bytes of a command with a string behind so many bytes: the string, its NUL, and zeros up to a multiple of 8
unfoldable pub string_command_size : ℕ → List ℕ → ℕ
string_command_size fixed string = least_multiple 8 (fixed + length string + 1)

-- what stands behind those bytes
unfoldable pub string_field : ℕ → List ℕ → List ℕ
string_field fixed string = string ++ replicate (string_command_size fixed string - (fixed + length string)) 0
