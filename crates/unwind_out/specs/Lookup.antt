-- What a section of compact unwind says of a place, whatever its bytes are (`compact_unwind_encoding.h`).
use Rattle.std.specs.Prelude.{ℕ, zero, suc, ◌+◌, ◌-◌, ◌*◌, ◌==◌, ◌&&◌, ◌/◌, ◌%◌, ◌^◌, nat_lt, nat_le, Bool, if◌then◌else◌, List, [], ◌∷◌, ◌++◌, length, Option, Some, None, unwrap_or}
use Rattle.std.specs.Option.{option_map, option_map_or}
use Rattle.mo_bytes.specs.Number.{number_at}
use Rattle.image_format.specs.Unwind.{unwind_info_header_at, unwind_index_entry_at, unwind_lsda_entry_at, regular_page_header_at, regular_page_entry_at, compressed_page_header_at, compressed_page_entry_at}
use Rattle.image_format.specs.declared.compact_unwind.TheConstants.{UNWIND_SECOND_LEVEL_REGULAR, UNWIND_SECOND_LEVEL_COMPRESSED}
use Rattle.image_format.specs.declared.unwind.UnwindInfoHeader.{UnwindInfoHeader}
use Rattle.image_format.specs.declared.unwind.UnwindIndexEntry.{UnwindIndexEntry}
use Rattle.image_format.specs.declared.unwind.UnwindLsdaEntry.{UnwindLsdaEntry}
use Rattle.image_format.specs.declared.unwind.RegularPageEntry.{RegularPageEntry}
use Rattle.image_format.specs.declared.unwind.CompressedPageHeader.{CompressedPageHeader}
use Rattle.unwind_out.specs.declared.lookup.UnwindHit.{UnwindHit}

-- what is read at some places, the first at `at` and each `width` bytes behind the one before
unfoldable pub each_at : {A : Type 0} → (ℕ → List A) → ℕ → ℕ → ℕ → List A
each_at read width at zero = []
each_at read width at (suc count) = read at ++ each_at read width (at + width) count

-- whether so many bytes from a place on lie in the section
abbrev pub lies : List ℕ → ℕ → ℕ → Bool
lies section at size = nat_le (at + size) (length section)

-- ---- the rows, each a function's offset and its encoding

-- the row of a regular page at a place, where it lies whole
unfoldable pub regular_row : List ℕ → ℕ → List RegularPageEntry
regular_row section at = if lies section at 8 then regular_page_entry_at section at ∷ [] else []

-- the encoding that an index names: one of the common encodings, and behind them one of the page's
unfoldable pub encoding_at : List ℕ → UnwindInfoHeader → ℕ → CompressedPageHeader → ℕ → Option ℕ
encoding_at section header page_at page index =
    if nat_lt index header.common_encodings_count then number_at 4 section (header.common_encodings_offset + 4 * index)
    else if nat_lt (index - header.common_encodings_count) page.encodings_count
    then number_at 4 section (page_at + page.encodings_offset + 4 * (index - header.common_encodings_count))
    else None

-- the row of a compressed page at a place, where it and its encoding lie whole; `first` is the function of the page's index entry
unfoldable pub compressed_row : List ℕ → UnwindInfoHeader → ℕ → ℕ → CompressedPageHeader → ℕ → List RegularPageEntry
compressed_row section header first page_at page at =
    if lies section at 4 then
    option_map_or
    (λ encoding. record { function_offset = first + (compressed_page_entry_at section at).function_offset; encoding = encoding } ∷ [])
    (encoding_at section header page_at page (compressed_page_entry_at section at).encoding_index) []
    else []

unfoldable pub regular_rows : List ℕ → ℕ → List RegularPageEntry
regular_rows section page_at =
    let page = regular_page_header_at section page_at in
    if lies section page_at 8
    then each_at (regular_row section) 8 (page_at + page.entry_offset) page.entry_count
    else []

unfoldable pub compressed_rows : List ℕ → UnwindInfoHeader → ℕ → ℕ → List RegularPageEntry
compressed_rows section header first page_at =
    let page = compressed_page_header_at section page_at in
    if lies section page_at 12
    then each_at (compressed_row section header first page_at page) 4 (page_at + page.entry_offset) page.entry_count
    else []

-- the rows of the page of an index entry; a page of another kind has none
unfoldable pub page_rows : List ℕ → UnwindInfoHeader → UnwindIndexEntry → List RegularPageEntry
page_rows section header entry =
    option_map_or
    (λ kind. if kind == UNWIND_SECOND_LEVEL_REGULAR then regular_rows section entry.page_offset
    else if kind == UNWIND_SECOND_LEVEL_COMPRESSED then compressed_rows section header entry.function_offset entry.page_offset
    else [])
    (number_at 4 section entry.page_offset) []

-- the rows of all pages; the last entry of the index has no page
unfoldable pub all_rows : List ℕ → UnwindInfoHeader → List RegularPageEntry
all_rows section header =
    each_at (λ at. page_rows section header (unwind_index_entry_at section at)) 12 header.index_offset (header.index_count - 1)

-- ---- language-specific data

-- the row on language-specific data at a place, where it lies whole
unfoldable pub lsda_row : List ℕ → ℕ → List UnwindLsdaEntry
lsda_row section at = if lies section at 8 then unwind_lsda_entry_at section at ∷ [] else []

-- the data of a function by the first row on it
abbrev pub lsda_found : List UnwindLsdaEntry → ℕ → Option ℕ
lsda_found [] function = None
lsda_found (row ∷ rows) function = if row.function_offset == function then Some row.lsda_offset else lsda_found rows function

-- the rows between the places that the first and the last entry of the index name
unfoldable pub all_lsda_rows : List ℕ → UnwindIndexEntry → UnwindIndexEntry → List UnwindLsdaEntry
all_lsda_rows section first last = each_at (lsda_row section) 8 first.lsda_offset ((last.lsda_offset - first.lsda_offset) / 8)

-- ---- the row of a place

-- of two rows, the first before the second, the one with the greater function, and the second where these are equal
abbrev pub greater : Option RegularPageEntry → Option RegularPageEntry → Option RegularPageEntry
greater None second = second
greater (Some row) None = Some row
greater (Some row) (Some second) = if nat_lt second.function_offset row.function_offset then Some row else Some second

-- a row whose function isn't after the place
abbrev pub before : ℕ → RegularPageEntry → Option RegularPageEntry
before offset row = if nat_le row.function_offset offset then Some row else None

-- the row with the greatest function that isn't after the place, the last of those with that function
unfoldable pub row_at : ℕ → List RegularPageEntry → Option RegularPageEntry
row_at offset [] = None
row_at offset (row ∷ rows) = greater (before offset row) (row_at offset rows)

abbrev pub hit_of : List UnwindLsdaEntry → RegularPageEntry → UnwindHit
hit_of lsdas row = record { function = row.function_offset; encoding = row.encoding; lsda = unwrap_or (lsda_found lsdas row.function_offset) 0 }

-- where the functions end, by the last entry of the index, where it lies whole
abbrev pub has_end : List ℕ → UnwindInfoHeader → Bool
has_end section header = nat_lt 0 header.index_count && lies section header.index_offset (12 * header.index_count)

-- what the section says of a place, given by its image offset
unfoldable pub unwind_in : List ℕ → UnwindInfoHeader → ℕ → Option UnwindHit
unwind_in section header offset =
    let first = unwind_index_entry_at section header.index_offset in
    let last = unwind_index_entry_at section (header.index_offset + 12 * (header.index_count - 1)) in
    if has_end section header && nat_lt offset last.function_offset
    then option_map (hit_of (all_lsda_rows section first last)) (row_at offset (all_rows section header))
    else None

unfoldable pub unwind : List ℕ → ℕ → Option UnwindHit
unwind section offset = if lies section 0 28 then unwind_in section (unwind_info_header_at section 0) offset else None

-- ---- personalities

-- the number of the personality that an encoding names, from 1, or 0 for none (UNWIND_PERSONALITY_MASK)
abbrev pub named_number : ℕ → ℕ
named_number encoding = encoding / 2 ^ 28 % 4

-- the slot of the personality that an encoding names, where the section has it
unfoldable pub personality_at : List ℕ → ℕ → Option ℕ
personality_at section encoding =
    let header = unwind_info_header_at section 0 in
    if lies section 0 28 && nat_lt 0 (named_number encoding) && nat_le (named_number encoding) header.personalities_count
    then number_at 4 section (header.personalities_offset + 4 * (named_number encoding - 1))
    else None
