-- Imports by the places of their names in the pool.
use Rattle.std.specs.Prelude.{ℕ, ◌+◌, ◌==◌, ◌&&◌, Bool, ℤ, List, [], ◌∷◌, ◌++◌, length, slice_get, Option, None, if◌then◌else◌}
use Rattle.std.specs.Bool.{beq}
use Rattle.std.specs.Option.{option_map}
use Rattle.std.specs.Ordering.{nat_cmp, int_cmp, int_eq, bool_cmp, ordering_then}
use Rattle.std.specs.Str.{bytes_eq}
use Rattle.std.specs.declared.cmp.Ordering.{Ordering}
use Rattle.fixup_chain.specs.ImportOrder.{Import}
use Rattle.fixup_chain.specs.Imports.{is_bound, last_name}
use Rattle.fixup_chain.specs.Pool.{row_bytes}
use Rattle.fixup_chain.specs.declared.chains.Fixup.{Fixup}
use Rattle.fixup_chain.specs.declared.import_row.ImportRow.{ImportRow}

-- an import whose name has a place in the pool
abbrev pub row_at : ℕ → Import → ImportRow
row_at place import = record { name = place; addend = import.addend; ordinal = import.ordinal; optional = import.optional }

-- imports in their order, the name of the first of which has a place
unfoldable pub rows_at : ℕ → List Import → List ImportRow
rows_at place [] = []
rows_at place (import ∷ imports) = row_at place import ∷ rows_at (place + length (last_name import imports)) imports

-- names behind an import, and its own, unless the next import has it too
abbrev pub with_name : Import → List Import → List (List ℕ) → List (List ℕ)
with_name import [] names = import.name ∷ names
with_name import (next ∷ imports) names = if bytes_eq import.name next.name then names else import.name ∷ names

-- the names of imports in their order, each once
unfoldable pub names_of : List Import → List (List ℕ)
names_of [] = []
names_of (import ∷ imports) = with_name import imports (names_of imports)

-- the place of a name among some, the first of which has a place
unfoldable pub place_by : ℕ → List (List ℕ) → List ℕ → ℕ
place_by place [] name = place
place_by place (first ∷ names) name = if bytes_eq first name then place else place_by (place + length (first ++ 0 ∷ [])) names name

-- an import by its name's place in the pool of some names
unfoldable pub row_in : List (List ℕ) → Import → ImportRow
row_in names import = row_at (place_by 1 names import.name) import

-- the same with another addend
abbrev pub with_addend : ℤ → ImportRow → ImportRow
with_addend addend row = record { name = row.name; addend = addend; ordinal = row.ordinal; optional = row.optional }

-- what a pointer is bound to, if it is, by the number of its import in the narrow form
unfoldable pub row_by : List ImportRow → ℕ → Fixup → Option ImportRow
row_by narrow number fixup = if is_bound fixup.goal then option_map (with_addend fixup.addend) (slice_get narrow number) else None

-- the bytes of an import
unfoldable pub bytes_of : Bool → ImportRow → List ℕ
bytes_of wide row = row_bytes wide row.name (record { name = []; addend = row.addend; ordinal = row.ordinal; optional = row.optional })

-- by the places of their names imports are in the same order
abbrev pub compare_rows : ImportRow → ImportRow → Ordering
compare_rows a b =
    ordering_then (nat_cmp a.name b.name) (ordering_then (int_cmp a.addend b.addend) (ordering_then (nat_cmp a.ordinal b.ordinal) (bool_cmp a.optional b.optional)))

abbrev pub same_row : ImportRow → ImportRow → Bool
same_row a b = a.name == b.name && (int_eq a.addend b.addend && (a.ordinal == b.ordinal && beq a.optional b.optional))
