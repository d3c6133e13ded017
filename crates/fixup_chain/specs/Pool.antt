-- The imports as they stand in the file, each with the place of its name in the pool.
use Rattle.std.specs.Prelude.{ℕ, ◌+◌, ◌%◌, ◌^◌, Bool, true, false, List, [], ◌∷◌, ◌++◌, length}
use Rattle.std.specs.Int.{cast_unsigned, w64}
use Rattle.image_format.specs.ChainedImport.{chained_import_bytes, chained_import_addend64_bytes}
use Rattle.fixup_chain.specs.ImportOrder.{Import}
use Rattle.fixup_chain.specs.Imports.{last_name}

-- an import whose name stands at a place of the pool; a field holds the low bits of its number
unfoldable pub row_bytes : Bool → ℕ → Import → List ℕ
row_bytes false place import =
    chained_import_bytes (record { lib_ordinal = import.ordinal % 2 ^ 8; weak_import = import.optional; name_offset = place % 2 ^ 23 })
row_bytes true place import =
    chained_import_addend64_bytes (record { lib_ordinal = import.ordinal; weak_import = import.optional; reserved = 0; name_offset = place % 2 ^ 32; addend = cast_unsigned w64 import.addend })

-- imports, the name of the first of which stands at a place of the pool
unfoldable pub rows_from : Bool → ℕ → List Import → List ℕ
rows_from wide place [] = []
rows_from wide place (import ∷ imports) =
    row_bytes wide place import ++ rows_from wide (place + length (last_name import imports)) imports
