-- The structures of chained fixups are read from their bytes.
use Rattle.std.proofs.Common.{◌≡◌, ℕ, List, [], ◌++◌, length, refl, append_assoc, add-zero}
use Rattle.mo_bytes.specs.Number.{number}
use Rattle.image_format.specs.ChainedFixups.{chained_fixups_header_at, chained_fixups_header_fields, chained_fixups_header_bytes, chained_starts_in_image_at, chained_starts_in_image_fields, chained_starts_in_image_bytes, chained_starts_in_segment_at, chained_starts_in_segment_fields, chained_starts_in_segment_bytes}
use Rattle.image_format.specs.declared.chained_fixups.ChainedFixupsHeader.{ChainedFixupsHeader}
use Rattle.image_format.specs.declared.chained_fixups.ChainedStartsInImage.{ChainedStartsInImage}
use Rattle.image_format.specs.declared.chained_fixups.ChainedStartsInSegment.{ChainedStartsInSegment}
use Rattle.mo_format.proofs.FieldLemmas.{AreFit, AllRead, all_read}

pub chained_fixups_header_read : (s : ChainedFixupsHeader) (front rest : List ℕ) → AreFit (chained_fixups_header_fields s) → chained_fixups_header_at ((front ++ chained_fixups_header_bytes s) ++ rest) (length front) ≡ s
chained_fixups_header_read s front rest fit =
    let read : AllRead (front ++ (chained_fixups_header_bytes s ++ rest)) (length front) 0 (chained_fixups_header_fields s) = all_read (chained_fixups_header_fields s) 0 front [] rest fit refl in
    let first : number 4 (front ++ (chained_fixups_header_bytes s ++ rest)) (length front) ≡ s.fixups_version = rw add-zero at read.0 in
    let same : chained_fixups_header_at (front ++ (chained_fixups_header_bytes s ++ rest)) (length front) ≡ record { fixups_version = s.fixups_version; starts_offset = s.starts_offset; imports_offset = s.imports_offset; symbols_offset = s.symbols_offset; imports_count = s.imports_count; imports_format = s.imports_format; symbols_format = s.symbols_format } = cc in
    rw append_assoc same

pub chained_starts_in_image_read : (s : ChainedStartsInImage) (front rest : List ℕ) → AreFit (chained_starts_in_image_fields s) → chained_starts_in_image_at ((front ++ chained_starts_in_image_bytes s) ++ rest) (length front) ≡ s
chained_starts_in_image_read s front rest fit =
    let read : AllRead (front ++ (chained_starts_in_image_bytes s ++ rest)) (length front) 0 (chained_starts_in_image_fields s) = all_read (chained_starts_in_image_fields s) 0 front [] rest fit refl in
    let first : number 4 (front ++ (chained_starts_in_image_bytes s ++ rest)) (length front) ≡ s.seg_count = rw add-zero at read.0 in
    let same : chained_starts_in_image_at (front ++ (chained_starts_in_image_bytes s ++ rest)) (length front) ≡ record { seg_count = s.seg_count } = cc in
    rw append_assoc same

pub chained_starts_in_segment_read : (s : ChainedStartsInSegment) (front rest : List ℕ) → AreFit (chained_starts_in_segment_fields s) → chained_starts_in_segment_at ((front ++ chained_starts_in_segment_bytes s) ++ rest) (length front) ≡ s
chained_starts_in_segment_read s front rest fit =
    let read : AllRead (front ++ (chained_starts_in_segment_bytes s ++ rest)) (length front) 0 (chained_starts_in_segment_fields s) = all_read (chained_starts_in_segment_fields s) 0 front [] rest fit refl in
    let first : number 4 (front ++ (chained_starts_in_segment_bytes s ++ rest)) (length front) ≡ s.size = rw add-zero at read.0 in
    let same : chained_starts_in_segment_at (front ++ (chained_starts_in_segment_bytes s ++ rest)) (length front) ≡ record { size = s.size; page_size = s.page_size; pointer_format = s.pointer_format; segment_offset = s.segment_offset; max_valid_pointer = s.max_valid_pointer; page_count = s.page_count } = cc in
    rw append_assoc same
