-- The numbers and versions of the command line.
use Rattle.std.specs.Prelude.{ℕ, ◌+◌, ◌*◌, ◌-◌, ◌%◌, ◌==◌, ◌&&◌, nat_le, nat_lt, Bool, List, [], ◌∷◌, length, take, drop, codes, nat_eq, Option, Some, None, if◌then◌else◌}
use Rattle.std.specs.List.{position, starts_with}
use Rattle.std.specs.Option.{option_and_then, option_map, option_map_or}

-- the value of a digit in hexadecimal, of either case
abbrev pub digit_of : ℕ → Option ℕ
digit_of byte =
    if nat_le 0x30 byte && nat_le byte 0x39 then Some (byte - 0x30)
    else if nat_le 0x61 byte && nat_le byte 0x66 then Some (byte - 0x61 + 10)
    else if nat_le 0x41 byte && nat_le byte 0x46 then Some (byte - 0x41 + 10)
    else None

abbrev pub where_true : {A : Type 0} → (A → Bool) → A → Option A
where_true test x = if test x then Some x else None

abbrev pub digit_in : ℕ → ℕ → Option ℕ
digit_in base byte = option_and_then (where_true (λ digit. nat_lt digit base)) (digit_of byte)

-- the number of a text's digits, after a number
abbrev pub number_after : ℕ → ℕ → List ℕ → Option ℕ
number_after base number [] = Some number
number_after base number (byte ∷ bytes) =
    option_and_then (λ digit. number_after base (number * base + digit) bytes) (digit_in base byte)

-- the number that one or more digits write
abbrev pub number_of : ℕ → List ℕ → Option ℕ
number_of base text = if length text == 0 then None else number_after base 0 text

unfoldable pub number_up_to : ℕ → ℕ → List ℕ → Option ℕ
number_up_to base most text = option_and_then (where_true (λ number. nat_le number most)) (number_of base text)

abbrev pub decimal_up_to : ℕ → List ℕ → Option ℕ
decimal_up_to most text = number_up_to 10 most text

-- a text up to its first dot, and what follows that dot
abbrev pub first_dot : List ℕ → Option ℕ
first_dot text = position (λ byte. byte == 0x2e) text

unfoldable pub before_dot : List ℕ → List ℕ
before_dot text = option_map_or (λ at. take at text) (first_dot text) text

unfoldable pub after_dot : List ℕ → Option (List ℕ)
after_dot text = option_map (λ at. drop (at + 1) text) (first_dot text)

-- X, X.Y or X.Y.Z in 16, 8 and 8 bits (loader.h: build_version_command)
abbrev pub patch_of : Option (List ℕ) → Option ℕ
patch_of None = Some 0
patch_of (Some text) = decimal_up_to 255 text

abbrev pub minor_of : Option (List ℕ) → Option ℕ
minor_of None = Some 0
minor_of (Some text) =
    option_and_then (λ minor. option_map (λ patch. minor * 256 + patch) (patch_of (after_dot text)))
    (decimal_up_to 255 (before_dot text))

unfoldable pub version_of : List ℕ → Option ℕ
version_of text =
    option_and_then (λ major. option_map (λ rest. major * 65536 + rest) (minor_of (after_dot text)))
    (decimal_up_to 65535 (before_dot text))

-- the options' numbers, in their bounds
abbrev pub from_to : ℕ → ℕ → List ℕ → Option ℕ
from_to least most text = option_and_then (where_true (λ number. nat_le least number)) (decimal_up_to most text)

abbrev pub threads_of : List ℕ → Option ℕ
threads_of text = from_to 1 64 text

abbrev pub functions_of : List ℕ → Option ℕ
functions_of text = from_to 1 20000 text

abbrev pub reach_of : List ℕ → Option ℕ
reach_of text = option_and_then (where_true (λ number. number % 4 == 0)) (from_to 4096 134217728 text)

-- the pad is hexadecimal, perhaps after `0x`
abbrev pub pad_of : List ℕ → Option ℕ
pad_of text = number_up_to 16 0x100000 (if starts_with nat_eq text (codes "0x") then drop 2 text else text)
