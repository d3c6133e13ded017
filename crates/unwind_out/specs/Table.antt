-- The rows of a section of compact unwind, from the functions of an image (`compact_unwind_encoding.h`).
use Rattle.std.specs.Prelude.{ℕ, ◌+◌, ◌*◌, ◌<◌, ◌≤◌, ◌-◌, ◌==◌, nat_lt, bit_and, if◌then◌else◌, List, [], ◌∷◌, ◌++◌, length, slice_index_or}
use Rattle.std.specs.List.{flat_map, position}
use Rattle.std.specs.Option.{option_map_or}
use Rattle.image_format.specs.declared.unwind.UnwindLsdaEntry.{UnwindLsdaEntry}
use Rattle.image_format.specs.declared.unwind.RegularPageEntry.{RegularPageEntry}
use Rattle.unwind_out.specs.declared.row.UnwindRow.{UnwindRow}

-- the first function of some begins at a place at the earliest
abbrev pub BeginsAfter : ℕ → List UnwindRow → Type 0
BeginsAfter place [] = Unit {0}
BeginsAfter place (row ∷ rows) = place ≤ row.function

-- each function ends after it begins, and not after the next one begins
abbrev pub AreApart : List UnwindRow → Type 0
AreApart [] = Unit {0}
AreApart (row ∷ rows) = (row.function < row.end) × BeginsAfter row.end rows × AreApart rows

-- ---- personalities

-- slots by rising offset with one more at its place, where it isn't there yet
unfoldable pub with_slot : ℕ → List ℕ → List ℕ
with_slot slot [] = slot ∷ []
with_slot slot (other ∷ slots) =
    if nat_lt slot other then slot ∷ other ∷ slots
    else if other == slot then other ∷ slots
    else other ∷ with_slot slot slots

-- with that of a function's personality, where it has one
abbrev pub with_personality : UnwindRow → List ℕ → List ℕ
with_personality row slots = if row.personality == 0 then slots else with_slot row.personality slots

unfoldable pub slots_with : List ℕ → List UnwindRow → List ℕ
slots_with slots [] = slots
slots_with slots (row ∷ rows) = slots_with (with_personality row slots) rows

-- the slots of the personalities of some functions, by rising offset, each once
abbrev pub personalities : List UnwindRow → List ℕ
personalities rows = slots_with [] rows

-- the number of a personality, from 1, and 0 where there is none
unfoldable pub personality_number : List ℕ → ℕ → ℕ
personality_number slots slot = option_map_or (λ place. place + 1) (position (λ other. other == slot) slots) 0

-- ---- rows

-- UNWIND_HAS_LSDA
abbrev pub lsda_bit : ℕ → ℕ
lsda_bit lsda = if lsda == 0 then 0 else 0x40000000

-- the encoding of a function's row: UNWIND_PERSONALITY_MASK has the number of its personality
unfoldable pub output_encoding : List ℕ → UnwindRow → ℕ
output_encoding slots row = bit_and row.encoding 0x8fffffff + 0x10000000 * personality_number slots row.personality + lsda_bit row.lsda

abbrev pub row_of : List ℕ → UnwindRow → RegularPageEntry
row_of slots row = record { function_offset = row.function; encoding = output_encoding slots row }

-- the row that closes a range, where the next function begins later
abbrev pub gap : ℕ → List UnwindRow → List RegularPageEntry
gap end [] = []
gap end (next ∷ rows) = if nat_lt end next.function then record { function_offset = end; encoding = 0 } ∷ [] else []

-- the rows of functions
unfoldable pub rows_of : List ℕ → List UnwindRow → List RegularPageEntry
rows_of slots [] = []
rows_of slots (row ∷ rows) = row_of slots row ∷ gap row.end rows ++ rows_of slots rows

abbrev pub no_row : UnwindRow
no_row = record { function = 0; end = 0; encoding = 0; personality = 0; lsda = 0 }

-- where the last range ends
abbrev pub end_of : List UnwindRow → ℕ
end_of rows = (slice_index_or rows (length rows - 1) no_row).end

abbrev pub lsda_of : UnwindRow → List UnwindLsdaEntry
lsda_of row = if row.lsda == 0 then [] else record { function_offset = row.function; lsda_offset = row.lsda } ∷ []

-- the rows on language-specific data
abbrev pub lsdas_of : List UnwindRow → List UnwindLsdaEntry
lsdas_of rows = flat_map lsda_of rows
