-- Each structure of the section of compact unwind is read from its bytes.
use Rattle.std.proofs.Common.{◌≡◌, ℕ, ◌+◌, ◌*◌, ◌/◌, ◌%◌, ◌^◌, ◌<◌, List, [], ◌++◌, length, refl, ◌∙◌, arith, append_assoc, add-zero}
use Rattle.mo_bytes.specs.Number.{number}
use Rattle.image_format.specs.Unwind.{unwind_info_header_at, unwind_info_header_fields, unwind_info_header_bytes}
use Rattle.image_format.specs.declared.unwind.UnwindInfoHeader.{UnwindInfoHeader}
use Rattle.image_format.specs.Unwind.{unwind_index_entry_at, unwind_index_entry_fields, unwind_index_entry_bytes}
use Rattle.image_format.specs.declared.unwind.UnwindIndexEntry.{UnwindIndexEntry}
use Rattle.image_format.specs.Unwind.{unwind_lsda_entry_at, unwind_lsda_entry_fields, unwind_lsda_entry_bytes}
use Rattle.image_format.specs.declared.unwind.UnwindLsdaEntry.{UnwindLsdaEntry}
use Rattle.image_format.specs.Unwind.{regular_page_header_at, regular_page_header_fields, regular_page_header_bytes}
use Rattle.image_format.specs.declared.unwind.RegularPageHeader.{RegularPageHeader}
use Rattle.image_format.specs.Unwind.{regular_page_entry_at, regular_page_entry_fields, regular_page_entry_bytes}
use Rattle.image_format.specs.declared.unwind.RegularPageEntry.{RegularPageEntry}
use Rattle.image_format.specs.Unwind.{compressed_page_header_at, compressed_page_header_fields, compressed_page_header_bytes}
use Rattle.image_format.specs.declared.unwind.CompressedPageHeader.{CompressedPageHeader}
use Rattle.image_format.specs.Unwind.{unpacked_row, packed_row, compressed_page_entry_at, compressed_page_entry_fields, compressed_page_entry_bytes}
use Rattle.image_format.specs.declared.unwind.CompressedPageEntry.{CompressedPageEntry}
use Rattle.mo_format.proofs.FieldLemmas.{AreFit, AllRead, all_read}

pub unwind_info_header_read : (s : UnwindInfoHeader) (front rest : List ℕ) → AreFit (unwind_info_header_fields s) → unwind_info_header_at ((front ++ unwind_info_header_bytes s) ++ rest) (length front) ≡ s
unwind_info_header_read s front rest fit =
    let read : AllRead (front ++ (unwind_info_header_bytes s ++ rest)) (length front) 0 (unwind_info_header_fields s) = all_read (unwind_info_header_fields s) 0 front [] rest fit refl in
    let first : number 4 (front ++ (unwind_info_header_bytes s ++ rest)) (length front) ≡ s.version = rw add-zero at read.0 in
    let same : unwind_info_header_at (front ++ (unwind_info_header_bytes s ++ rest)) (length front) ≡ record { version = s.version; common_encodings_offset = s.common_encodings_offset; common_encodings_count = s.common_encodings_count; personalities_offset = s.personalities_offset; personalities_count = s.personalities_count; index_offset = s.index_offset; index_count = s.index_count } = cc in
    rw append_assoc same

pub unwind_index_entry_read : (s : UnwindIndexEntry) (front rest : List ℕ) → AreFit (unwind_index_entry_fields s) → unwind_index_entry_at ((front ++ unwind_index_entry_bytes s) ++ rest) (length front) ≡ s
unwind_index_entry_read s front rest fit =
    let read : AllRead (front ++ (unwind_index_entry_bytes s ++ rest)) (length front) 0 (unwind_index_entry_fields s) = all_read (unwind_index_entry_fields s) 0 front [] rest fit refl in
    let first : number 4 (front ++ (unwind_index_entry_bytes s ++ rest)) (length front) ≡ s.function_offset = rw add-zero at read.0 in
    let same : unwind_index_entry_at (front ++ (unwind_index_entry_bytes s ++ rest)) (length front) ≡ record { function_offset = s.function_offset; page_offset = s.page_offset; lsda_offset = s.lsda_offset } = cc in
    rw append_assoc same

pub unwind_lsda_entry_read : (s : UnwindLsdaEntry) (front rest : List ℕ) → AreFit (unwind_lsda_entry_fields s) → unwind_lsda_entry_at ((front ++ unwind_lsda_entry_bytes s) ++ rest) (length front) ≡ s
unwind_lsda_entry_read s front rest fit =
    let read : AllRead (front ++ (unwind_lsda_entry_bytes s ++ rest)) (length front) 0 (unwind_lsda_entry_fields s) = all_read (unwind_lsda_entry_fields s) 0 front [] rest fit refl in
    let first : number 4 (front ++ (unwind_lsda_entry_bytes s ++ rest)) (length front) ≡ s.function_offset = rw add-zero at read.0 in
    let same : unwind_lsda_entry_at (front ++ (unwind_lsda_entry_bytes s ++ rest)) (length front) ≡ record { function_offset = s.function_offset; lsda_offset = s.lsda_offset } = cc in
    rw append_assoc same

pub regular_page_header_read : (s : RegularPageHeader) (front rest : List ℕ) → AreFit (regular_page_header_fields s) → regular_page_header_at ((front ++ regular_page_header_bytes s) ++ rest) (length front) ≡ s
regular_page_header_read s front rest fit =
    let read : AllRead (front ++ (regular_page_header_bytes s ++ rest)) (length front) 0 (regular_page_header_fields s) = all_read (regular_page_header_fields s) 0 front [] rest fit refl in
    let first : number 4 (front ++ (regular_page_header_bytes s ++ rest)) (length front) ≡ s.kind = rw add-zero at read.0 in
    let same : regular_page_header_at (front ++ (regular_page_header_bytes s ++ rest)) (length front) ≡ record { kind = s.kind; entry_offset = s.entry_offset; entry_count = s.entry_count } = cc in
    rw append_assoc same

pub regular_page_entry_read : (s : RegularPageEntry) (front rest : List ℕ) → AreFit (regular_page_entry_fields s) → regular_page_entry_at ((front ++ regular_page_entry_bytes s) ++ rest) (length front) ≡ s
regular_page_entry_read s front rest fit =
    let read : AllRead (front ++ (regular_page_entry_bytes s ++ rest)) (length front) 0 (regular_page_entry_fields s) = all_read (regular_page_entry_fields s) 0 front [] rest fit refl in
    let first : number 4 (front ++ (regular_page_entry_bytes s ++ rest)) (length front) ≡ s.function_offset = rw add-zero at read.0 in
    let same : regular_page_entry_at (front ++ (regular_page_entry_bytes s ++ rest)) (length front) ≡ record { function_offset = s.function_offset; encoding = s.encoding } = cc in
    rw append_assoc same

pub compressed_page_header_read : (s : CompressedPageHeader) (front rest : List ℕ) → AreFit (compressed_page_header_fields s) → compressed_page_header_at ((front ++ compressed_page_header_bytes s) ++ rest) (length front) ≡ s
compressed_page_header_read s front rest fit =
    let read : AllRead (front ++ (compressed_page_header_bytes s ++ rest)) (length front) 0 (compressed_page_header_fields s) = all_read (compressed_page_header_fields s) 0 front [] rest fit refl in
    let first : number 4 (front ++ (compressed_page_header_bytes s ++ rest)) (length front) ≡ s.kind = rw add-zero at read.0 in
    let same : compressed_page_header_at (front ++ (compressed_page_header_bytes s ++ rest)) (length front) ≡ record { kind = s.kind; entry_offset = s.entry_offset; entry_count = s.entry_count; encodings_offset = s.encodings_offset; encodings_count = s.encodings_count } = cc in
    rw append_assoc same

row_distance : (distance index : ℕ) → distance < 2 ^ 24 → (distance + 0x1000000 * index) % 0x1000000 ≡ distance
row_distance distance index small = omega arith

row_index : (distance index : ℕ) → distance < 2 ^ 24 → (distance + 0x1000000 * index) / 0x1000000 ≡ index
row_index distance index small = omega arith

pub unpacked-packed_row : (s : CompressedPageEntry) → s.function_offset < 2 ^ 24 → unpacked_row (packed_row s) ≡ s
unfolding unpacked_row
unpacked-packed_row s small =
    let distance = row_distance s.function_offset s.encoding_index small in
    let index = row_index s.function_offset s.encoding_index small in
    let same : unpacked_row (packed_row s) ≡ record { function_offset = s.function_offset; encoding_index = s.encoding_index } = cc in
    same

pub compressed_page_entry_read : (s : CompressedPageEntry) (front rest : List ℕ) → s.function_offset < 2 ^ 24 → packed_row s < 256 ^ 4 → compressed_page_entry_at ((front ++ compressed_page_entry_bytes s) ++ rest) (length front) ≡ s
compressed_page_entry_read s front rest small fit =
    let read : AllRead (front ++ (compressed_page_entry_bytes s ++ rest)) (length front) 0 (compressed_page_entry_fields s) = all_read (compressed_page_entry_fields s) 0 front [] rest (fit, tt) refl in
    let first : number 4 (front ++ (compressed_page_entry_bytes s ++ rest)) (length front) ≡ packed_row s = rw add-zero at read.0 in
    let both : compressed_page_entry_at (front ++ (compressed_page_entry_bytes s ++ rest)) (length front) ≡ unpacked_row (packed_row s) = cc in
    rw append_assoc (both ∙ unpacked-packed_row s small)
