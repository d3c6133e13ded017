-- The chains of an image whole: the words of its pointers, and the part that tells the loader of them
-- (`fixup-chains.h`: dyld_chained_fixups_header).
use Rattle.std.specs.Prelude.{ℕ, ◌+◌, ◌^◌, ◌≤◌, ◌%◌, Bool, List, [], ◌∷◌, ◌++◌, length, if◌then◌else◌}
use Rattle.std.specs.List.{AllPairs}
use Rattle.image_format.specs.ChainedFixups.{chained_fixups_header_bytes}
use Rattle.image_format.specs.declared.fixup_chains.TheConstants.{DYLD_CHAINED_IMPORT, DYLD_CHAINED_IMPORT_ADDEND64}
use Rattle.fixup_chain.specs.ImportOrder.{Import}
use Rattle.fixup_chain.specs.Imports.{pool_of}
use Rattle.fixup_chain.specs.Pool.{rows_from}
use Rattle.fixup_chain.specs.Starts.{starts_bytes, zeros_to}
use Rattle.fixup_chain.specs.declared.chains.Fixup.{Fixup}
use Rattle.sect_place.specs.declared.layout.Segment.{Segment}

-- each pointer has 8 bytes, and none begins before the one before it ends
abbrev pub AreApart : List Fixup → Type 0
AreApart fixups = AllPairs (λ a b. a.address + 8 ≤ b.address) fixups

-- a number of imports that words have room for
abbrev pub IMPORTS : ℕ
IMPORTS = 2 ^ 24

-- the format of the imports, and at which multiples they stand
abbrev pub format_of : Bool → ℕ
format_of wide = if wide then DYLD_CHAINED_IMPORT_ADDEND64 else DYLD_CHAINED_IMPORT

abbrev pub unit_of : Bool → ℕ
unit_of wide = if wide then 8 else 4

-- The header, which names the parts behind it: from byte 32 on the starts, at the next multiple of the imports' unit
-- the imports, and behind them the pool.
unfoldable pub header_bytes : Bool → ℕ → ℕ → ℕ → List ℕ
header_bytes wide starts rows count =
    chained_fixups_header_bytes (record {
      fixups_version = 0;
      starts_offset = 32;
      imports_offset = (32 + (starts + length (zeros_to (unit_of wide) starts))) % 2 ^ 32;
      symbols_offset = (32 + (starts + length (zeros_to (unit_of wide) starts)) + rows) % 2 ^ 32;
      imports_count = count;
      imports_format = format_of wide;
      symbols_format = 0;
    })

-- the parts of some sizes, each at its place
unfoldable pub joined : Bool → ℕ → List ℕ → List ℕ → List ℕ → List ℕ
joined wide count starts rows pool =
    header_bytes wide (length starts) (length rows) count ++ ((0 ∷ 0 ∷ 0 ∷ 0 ∷ []) ++ (starts ++ (zeros_to (unit_of wide) (length starts) ++ (rows ++ pool))))

-- the same with zeros up to a multiple of 8
unfoldable pub padded : List ℕ → List ℕ
padded bytes = bytes ++ zeros_to 8 (length bytes)

unfoldable pub blob_of : List ℕ → ℕ → List Segment → Bool → List Import → List ℕ
blob_of addresses base segments wide imports =
    padded (joined wide (length imports) (starts_bytes addresses base segments) (rows_from wide 1 imports) (pool_of imports))
