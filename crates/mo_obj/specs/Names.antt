-- Names in structures.
use Rattle.std.specs.Prelude.{ℕ, List, take, drop}
use Rattle.std.specs.Option.{option_map_or}
use Rattle.mo_strings.specs.Strings.{first_nul}

-- the bytes of a name of 16 bytes: those before its first NUL, or all
unfoldable pub name_text : List ℕ → List ℕ
name_text name = option_map_or (λ end. take end name) (first_nul name) name

-- some bytes from a place on
abbrev pub part : List ℕ → ℕ → ℕ → List ℕ
part bytes at size = take size (drop at bytes)
