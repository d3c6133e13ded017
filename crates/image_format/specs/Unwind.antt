-- The section of compact unwind (`compact_unwind_encoding.h`).
use Rattle.std.specs.Prelude.{ℕ, ◌+◌, ◌*◌, ◌/◌, ◌%◌, List, [], ◌∷◌}
use Rattle.mo_bytes.specs.Number.{number}
use Rattle.mo_format.specs.Fields.{Field, Number, spelled}
use Rattle.image_format.specs.declared.unwind.UnwindInfoHeader.{UnwindInfoHeader}
use Rattle.image_format.specs.declared.unwind.UnwindIndexEntry.{UnwindIndexEntry}
use Rattle.image_format.specs.declared.unwind.UnwindLsdaEntry.{UnwindLsdaEntry}
use Rattle.image_format.specs.declared.unwind.RegularPageHeader.{RegularPageHeader}
use Rattle.image_format.specs.declared.unwind.RegularPageEntry.{RegularPageEntry}
use Rattle.image_format.specs.declared.unwind.CompressedPageHeader.{CompressedPageHeader}
use Rattle.image_format.specs.declared.unwind.CompressedPageEntry.{CompressedPageEntry}

-- unwind_info_section_header, 28 bytes
abbrev pub unwind_info_header_at : List ℕ → ℕ → UnwindInfoHeader
unwind_info_header_at bytes at = record {
  version = number 4 bytes at;
  common_encodings_offset = number 4 bytes (at + 4);
  common_encodings_count = number 4 bytes (at + 8);
  personalities_offset = number 4 bytes (at + 12);
  personalities_count = number 4 bytes (at + 16);
  index_offset = number 4 bytes (at + 20);
  index_count = number 4 bytes (at + 24);
}

abbrev pub unwind_info_header_fields : UnwindInfoHeader → List Field
unwind_info_header_fields s =
    Number 4 s.version
    ∷ Number 4 s.common_encodings_offset
    ∷ Number 4 s.common_encodings_count
    ∷ Number 4 s.personalities_offset
    ∷ Number 4 s.personalities_count
    ∷ Number 4 s.index_offset
    ∷ Number 4 s.index_count
    ∷ []

abbrev pub unwind_info_header_bytes : UnwindInfoHeader → List ℕ
unwind_info_header_bytes s = spelled (unwind_info_header_fields s)

-- unwind_info_section_header_index_entry, 12 bytes
abbrev pub unwind_index_entry_at : List ℕ → ℕ → UnwindIndexEntry
unwind_index_entry_at bytes at = record {
  function_offset = number 4 bytes at;
  page_offset = number 4 bytes (at + 4);
  lsda_offset = number 4 bytes (at + 8);
}

abbrev pub unwind_index_entry_fields : UnwindIndexEntry → List Field
unwind_index_entry_fields s =
    Number 4 s.function_offset
    ∷ Number 4 s.page_offset
    ∷ Number 4 s.lsda_offset
    ∷ []

abbrev pub unwind_index_entry_bytes : UnwindIndexEntry → List ℕ
unwind_index_entry_bytes s = spelled (unwind_index_entry_fields s)

-- unwind_info_section_header_lsda_index_entry, 8 bytes
abbrev pub unwind_lsda_entry_at : List ℕ → ℕ → UnwindLsdaEntry
unwind_lsda_entry_at bytes at = record {
  function_offset = number 4 bytes at;
  lsda_offset = number 4 bytes (at + 4);
}

abbrev pub unwind_lsda_entry_fields : UnwindLsdaEntry → List Field
unwind_lsda_entry_fields s =
    Number 4 s.function_offset
    ∷ Number 4 s.lsda_offset
    ∷ []

abbrev pub unwind_lsda_entry_bytes : UnwindLsdaEntry → List ℕ
unwind_lsda_entry_bytes s = spelled (unwind_lsda_entry_fields s)

-- unwind_info_regular_second_level_page_header, 8 bytes
abbrev pub regular_page_header_at : List ℕ → ℕ → RegularPageHeader
regular_page_header_at bytes at = record {
  kind = number 4 bytes at;
  entry_offset = number 2 bytes (at + 4);
  entry_count = number 2 bytes (at + 6);
}

abbrev pub regular_page_header_fields : RegularPageHeader → List Field
regular_page_header_fields s =
    Number 4 s.kind
    ∷ Number 2 s.entry_offset
    ∷ Number 2 s.entry_count
    ∷ []

abbrev pub regular_page_header_bytes : RegularPageHeader → List ℕ
regular_page_header_bytes s = spelled (regular_page_header_fields s)

-- unwind_info_regular_second_level_entry, 8 bytes
abbrev pub regular_page_entry_at : List ℕ → ℕ → RegularPageEntry
regular_page_entry_at bytes at = record {
  function_offset = number 4 bytes at;
  encoding = number 4 bytes (at + 4);
}

abbrev pub regular_page_entry_fields : RegularPageEntry → List Field
regular_page_entry_fields s =
    Number 4 s.function_offset
    ∷ Number 4 s.encoding
    ∷ []

abbrev pub regular_page_entry_bytes : RegularPageEntry → List ℕ
regular_page_entry_bytes s = spelled (regular_page_entry_fields s)

-- unwind_info_compressed_second_level_page_header, 12 bytes
abbrev pub compressed_page_header_at : List ℕ → ℕ → CompressedPageHeader
compressed_page_header_at bytes at = record {
  kind = number 4 bytes at;
  entry_offset = number 2 bytes (at + 4);
  entry_count = number 2 bytes (at + 6);
  encodings_offset = number 2 bytes (at + 8);
  encodings_count = number 2 bytes (at + 10);
}

abbrev pub compressed_page_header_fields : CompressedPageHeader → List Field
compressed_page_header_fields s =
    Number 4 s.kind
    ∷ Number 2 s.entry_offset
    ∷ Number 2 s.entry_count
    ∷ Number 2 s.encodings_offset
    ∷ Number 2 s.encodings_count
    ∷ []

abbrev pub compressed_page_header_bytes : CompressedPageHeader → List ℕ
compressed_page_header_bytes s = spelled (compressed_page_header_fields s)

-- a row of a compressed page in one number: 24 bits of distance, and above them 8 bits of the encoding's index
unfoldable pub unpacked_row : ℕ → CompressedPageEntry
unpacked_row word = record { function_offset = word % 0x1000000; encoding_index = word / 0x1000000 }

abbrev pub packed_row : CompressedPageEntry → ℕ
packed_row s = s.function_offset + 0x1000000 * s.encoding_index

-- such a row, 4 bytes
abbrev pub compressed_page_entry_at : List ℕ → ℕ → CompressedPageEntry
compressed_page_entry_at bytes at = unpacked_row (number 4 bytes at)

abbrev pub compressed_page_entry_fields : CompressedPageEntry → List Field
compressed_page_entry_fields s = Number 4 (packed_row s) ∷ []

abbrev pub compressed_page_entry_bytes : CompressedPageEntry → List ℕ
compressed_page_entry_bytes s = spelled (compressed_page_entry_fields s)
