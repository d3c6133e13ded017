-- How the part of the chained fixups begins, and the starts of its chains.
use Rattle.std.specs.Prelude.{ℕ, ◌+◌, List, [], ◌∷◌}
use Rattle.mo_bytes.specs.Number.{number}
use Rattle.mo_format.specs.Fields.{Field, Number, spelled}
use Rattle.image_format.specs.declared.chained_fixups.ChainedFixupsHeader.{ChainedFixupsHeader}
use Rattle.image_format.specs.declared.chained_fixups.ChainedStartsInImage.{ChainedStartsInImage}
use Rattle.image_format.specs.declared.chained_fixups.ChainedStartsInSegment.{ChainedStartsInSegment}

-- fixup-chains.h: dyld_chained_fixups_header, 28 bytes
abbrev pub chained_fixups_header_at : List ℕ → ℕ → ChainedFixupsHeader
chained_fixups_header_at bytes at = record {
  fixups_version = number 4 bytes at;
  starts_offset = number 4 bytes (at + 4);
  imports_offset = number 4 bytes (at + 8);
  symbols_offset = number 4 bytes (at + 12);
  imports_count = number 4 bytes (at + 16);
  imports_format = number 4 bytes (at + 20);
  symbols_format = number 4 bytes (at + 24);
}

abbrev pub chained_fixups_header_fields : ChainedFixupsHeader → List Field
chained_fixups_header_fields s =
    Number 4 s.fixups_version
    ∷ Number 4 s.starts_offset
    ∷ Number 4 s.imports_offset
    ∷ Number 4 s.symbols_offset
    ∷ Number 4 s.imports_count
    ∷ Number 4 s.imports_format
    ∷ Number 4 s.symbols_format
    ∷ []

abbrev pub chained_fixups_header_bytes : ChainedFixupsHeader → List ℕ
chained_fixups_header_bytes s = spelled (chained_fixups_header_fields s)

-- fixup-chains.h: dyld_chained_starts_in_image, 4 bytes without seg_info_offset
abbrev pub chained_starts_in_image_at : List ℕ → ℕ → ChainedStartsInImage
chained_starts_in_image_at bytes at = record {
  seg_count = number 4 bytes at;
}

abbrev pub chained_starts_in_image_fields : ChainedStartsInImage → List Field
chained_starts_in_image_fields s = Number 4 s.seg_count ∷ []

abbrev pub chained_starts_in_image_bytes : ChainedStartsInImage → List ℕ
chained_starts_in_image_bytes s = spelled (chained_starts_in_image_fields s)

-- fixup-chains.h: dyld_chained_starts_in_segment, 22 bytes without page_start
abbrev pub chained_starts_in_segment_at : List ℕ → ℕ → ChainedStartsInSegment
chained_starts_in_segment_at bytes at = record {
  size = number 4 bytes at;
  page_size = number 2 bytes (at + 4);
  pointer_format = number 2 bytes (at + 6);
  segment_offset = number 8 bytes (at + 8);
  max_valid_pointer = number 4 bytes (at + 16);
  page_count = number 2 bytes (at + 20);
}

abbrev pub chained_starts_in_segment_fields : ChainedStartsInSegment → List Field
chained_starts_in_segment_fields s =
    Number 4 s.size
    ∷ Number 2 s.page_size
    ∷ Number 2 s.pointer_format
    ∷ Number 8 s.segment_offset
    ∷ Number 4 s.max_valid_pointer
    ∷ Number 2 s.page_count
    ∷ []

abbrev pub chained_starts_in_segment_bytes : ChainedStartsInSegment → List ℕ
chained_starts_in_segment_bytes s = spelled (chained_starts_in_segment_fields s)
