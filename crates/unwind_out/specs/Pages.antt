-- The pages of a section of compact unwind, and its bytes (`compact_unwind_encoding.h`).
use Rattle.std.specs.Prelude.{ℕ, ◌≡◌, ◌+◌, ◌-◌, ◌*◌, ◌%◌, ◌^◌, ◌<◌, ◌≤◌, ◌==◌, nat_lt, nat_le, if◌then◌else◌, List, [], ◌∷◌, ◌++◌, length, take, drop, map, is_some}
use Rattle.std.specs.List.{AllByRecursion, flat_map, position, position_or_len}
use Rattle.mo_bytes.specs.Number.{number_bytes}
use Rattle.image_format.specs.Unwind.{unwind_info_header_bytes, unwind_index_entry_bytes, unwind_lsda_entry_bytes, regular_page_header_bytes, regular_page_entry_bytes, compressed_page_header_bytes, compressed_page_entry_bytes}
use Rattle.image_format.specs.declared.compact_unwind.TheConstants.{UNWIND_SECTION_VERSION, UNWIND_SECOND_LEVEL_REGULAR, UNWIND_SECOND_LEVEL_COMPRESSED}
use Rattle.image_format.specs.declared.unwind.UnwindInfoHeader.{UnwindInfoHeader}
use Rattle.image_format.specs.declared.unwind.UnwindIndexEntry.{UnwindIndexEntry}
use Rattle.image_format.specs.declared.unwind.UnwindLsdaEntry.{UnwindLsdaEntry}
use Rattle.image_format.specs.declared.unwind.RegularPageHeader.{RegularPageHeader}
use Rattle.image_format.specs.declared.unwind.RegularPageEntry.{RegularPageEntry}
use Rattle.image_format.specs.declared.unwind.CompressedPageHeader.{CompressedPageHeader}
use Rattle.image_format.specs.declared.unwind.CompressedPageEntry.{CompressedPageEntry}
use Rattle.unwind_out.specs.declared.row.UnwindRow.{UnwindRow}
use Rattle.unwind_out.specs.Table.{personalities, rows_of, lsdas_of, end_of}

-- ---- encodings

-- numbers with one more behind them, where it isn't there yet
abbrev pub with_new : List ℕ → ℕ → List ℕ
with_new seen number = if is_some (position (λ other. other == number) seen) then seen else seen ++ number ∷ []

unfoldable pub first_uses : List ℕ → List ℕ → List ℕ
first_uses seen [] = seen
first_uses seen (number ∷ numbers) = first_uses (with_new seen number) numbers

-- the encodings of some rows, each once, in the order of their first use
unfoldable pub encodings : List RegularPageEntry → List ℕ
encodings rows = first_uses [] (map (λ row. row.encoding) rows)

-- ---- pages

abbrev pub first_function : List RegularPageEntry → ℕ
first_function [] = 0
first_function (row ∷ rows) = row.function_offset

-- a row whose distance from the first function has 24 bits
abbrev pub IsNear : ℕ → RegularPageEntry → Type 0
IsNear first row = row.function_offset < first + 2 ^ 24

-- rows that one compressed page can hold: it has 8 bits for an encoding's index, and 4096 bytes in all
pub record IsCompressible (rows : List RegularPageEntry) : Type 0 where
  pub near : AllByRecursion (IsNear (first_function rows)) rows
  pub indexed : length (encodings rows) ≤ 256
  pub room : length rows + length (encodings rows) ≤ 1021

-- the most rows, taken in order, that one compressed page can hold
pub record IsMost (rows : List RegularPageEntry) (count : ℕ) : Type 0 where
  pub within : count ≤ length rows
  pub holds : IsCompressible (take count rows)
  pub most : (other : ℕ) → other ≤ length rows → IsCompressible (take other rows) → other ≤ count

-- a regular page has at most 511 rows, which are 4096 bytes with its header
abbrev pub page_length : ℕ → ℕ
page_length most = if nat_lt 511 most then most else 511

-- the first page of some rows: compressed where that holds more rows than a regular page
pub record IsFirstPage (rows page : List RegularPageEntry) : Type 0 where
  pub some : 0 < length rows
  pub count : ℕ
  pub most : IsMost rows count
  pub split : page ≡ take (page_length count) rows

-- the rows in pages
abbrev pub ArePages : List RegularPageEntry → List (List RegularPageEntry) → Type 0
ArePages rows [] = rows ≡ []
ArePages rows (page ∷ pages) = IsFirstPage rows page × ArePages (drop (length page) rows) pages

-- ---- bytes

abbrev pub regular_page_header : ℕ → RegularPageHeader
regular_page_header count = record { kind = UNWIND_SECOND_LEVEL_REGULAR; entry_offset = 8; entry_count = count }

unfoldable pub regular_page : List RegularPageEntry → List ℕ
regular_page rows = regular_page_header_bytes (regular_page_header (length rows)) ++ flat_map regular_page_entry_bytes rows

abbrev pub compressed_page_header : ℕ → ℕ → CompressedPageHeader
compressed_page_header count encoding_count =
    record { kind = UNWIND_SECOND_LEVEL_COMPRESSED; entry_offset = 12; entry_count = count; encodings_offset = 12 + 4 * count; encodings_count = encoding_count }

abbrev pub compressed_entry : ℕ → List ℕ → RegularPageEntry → CompressedPageEntry
compressed_entry first numbers row =
    record { function_offset = row.function_offset - first; encoding_index = position_or_len (λ other. other == row.encoding) numbers }

unfoldable pub compressed_page : List RegularPageEntry → List ℕ
compressed_page rows =
    compressed_page_header_bytes (compressed_page_header (length rows) (length (encodings rows)))
    ++ flat_map (λ row. compressed_page_entry_bytes (compressed_entry (first_function rows) (encodings rows) row)) rows
    ++ flat_map (number_bytes 4) (encodings rows)

unfoldable pub page_bytes : List RegularPageEntry → List ℕ
page_bytes page = if nat_lt 511 (length page) then compressed_page page else regular_page page

-- a number in a field of 4 bytes, which holds it modulo 2^32
abbrev pub field : ℕ → ℕ
field n = n % 2 ^ 32

-- the place of the first row on language-specific data whose function isn't before a place, or the end of these rows
abbrev pub lsda_place : ℕ → List UnwindLsdaEntry → ℕ → ℕ
lsda_place lsda_at lsdas function = lsda_at + 8 * position_or_len (λ row. nat_le function row.function_offset) lsdas

-- the index of pages that stand one behind the other from a place on
unfoldable pub index_of : ℕ → List UnwindLsdaEntry → ℕ → List (List RegularPageEntry) → List UnwindIndexEntry
index_of lsda_at lsdas page_at [] = []
index_of lsda_at lsdas page_at (page ∷ pages) =
    record { function_offset = first_function page; page_offset = field page_at; lsda_offset = field (lsda_place lsda_at lsdas (first_function page)) }
    ∷ index_of lsda_at lsdas (page_at + length (page_bytes page)) pages

-- the entry behind those of pages, at which functions and rows on language-specific data end
abbrev pub last_entry : ℕ → ℕ → UnwindIndexEntry
last_entry end lsda_end = record { function_offset = end; page_offset = 0; lsda_offset = field lsda_end }

abbrev pub info_header : ℕ → ℕ → UnwindInfoHeader
info_header slots pages = record {
  version = UNWIND_SECTION_VERSION;
  common_encodings_offset = 28;
  common_encodings_count = 0;
  personalities_offset = 28;
  personalities_count = slots;
  index_offset = 28 + 4 * slots;
  index_count = field (pages + 1);
}

-- a section: its header, the slots of the personalities, the index, the rows on language-specific data, and the pages
unfoldable pub section_bytes : List ℕ → List UnwindLsdaEntry → ℕ → List (List RegularPageEntry) → List ℕ
section_bytes slots lsdas end pages =
    let lsda_at = 28 + 4 * length slots + 12 * (length pages + 1) in
    let page_at = lsda_at + 8 * length lsdas in
    unwind_info_header_bytes (info_header (length slots) (length pages))
    ++ flat_map (number_bytes 4) slots
    ++ flat_map unwind_index_entry_bytes (index_of lsda_at lsdas page_at pages)
    ++ unwind_index_entry_bytes (last_entry end page_at)
    ++ flat_map unwind_lsda_entry_bytes lsdas
    ++ flat_map page_bytes pages

-- the bytes are the section of these functions
pub record IsSection (rows : List UnwindRow) (bytes : List ℕ) : Type 0 where
  pub pages : List (List RegularPageEntry)
  pub cut : ArePages (rows_of (personalities rows) rows) pages
  pub spelled : bytes ≡ section_bytes (personalities rows) (lsdas_of rows) (end_of rows) pages

-- so many bytes has the section of these functions
abbrev pub IsSizeOf : List UnwindRow → ℕ → Type 0
IsSizeOf rows size = (bytes : List ℕ) → IsSection rows bytes → length bytes ≡ size
