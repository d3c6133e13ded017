-- What a file is, by its first bytes (`loader.h`: MH_MAGIC_64; `ar.h`: ARMAG; `fat.h`: FAT_MAGIC, FAT_MAGIC_64;
-- LLVM's bitcode and its wrapper; TBD).
use Rattle.std.specs.Prelude.{ℕ, ◌==◌, ◌&&◌, ◌||◌, Bool, true, false, not, nat_eq, List, [], ◌∷◌, codes, if◌then◌else◌}
use Rattle.std.specs.List.{starts_with, find, slice_split}
use Rattle.std.specs.Option.{option_map_or}
use Rattle.mo_types.specs.declared.cause.Feature.TheVariants.{Fat64, ThinArchive, Bitcode, Tbd}
use Rattle.mo_types.specs.declared.kind.Kind.{Kind}
use Rattle.mo_types.specs.declared.kind.Kind.TheVariants.{MachO, Archive, Universal, Stub, NotAnInput, Refused}

-- neither a space nor a tab, nor a carriage return, with which a line may end
abbrev pub is_other : ℕ → Bool
is_other byte = not (byte == 0x20) && not (byte == 0x09) && not (byte == 0x0d)

-- the lines of a text, each without the newline that ends it
abbrev pub lines : List ℕ → List (List ℕ)
lines bytes = slice_split (λ byte. byte == 0x0a) bytes

-- a line with nothing but blanks, or with a `#` after its blanks
abbrev pub is_passed_over : List ℕ → Bool
is_passed_over line = option_map_or (λ byte. byte == 0x23) (find is_other line) true

-- the first line that isn't passed over begins a document of YAML
unfoldable pub is_stub_text : List ℕ → Bool
is_stub_text bytes =
    option_map_or (λ line. starts_with nat_eq line (codes "---"))
    (find (λ line. not (is_passed_over line)) (lines bytes)) false

abbrev pub begins : List ℕ → List ℕ → Bool
begins bytes front = starts_with nat_eq bytes front

unfoldable pub kind_of : List ℕ → Kind
kind_of bytes =
    if begins bytes (0xcf ∷ 0xfa ∷ 0xed ∷ 0xfe ∷ []) then MachO
    else if begins bytes (codes "!<arch>\n") then Archive
    else if begins bytes (0xca ∷ 0xfe ∷ 0xba ∷ 0xbe ∷ []) then Universal
    else if begins bytes (0xca ∷ 0xfe ∷ 0xba ∷ 0xbf ∷ []) then Refused Fat64
    else if begins bytes (codes "!<thin>\n") then Refused ThinArchive
    else if begins bytes (0x42 ∷ 0x43 ∷ 0xc0 ∷ 0xde ∷ []) || begins bytes (0xde ∷ 0xc0 ∷ 0x17 ∷ 0x0b ∷ []) then Refused Bitcode
    else if begins bytes (codes "{") then Refused Tbd
    else if is_stub_text bytes then Stub
    else NotAnInput
