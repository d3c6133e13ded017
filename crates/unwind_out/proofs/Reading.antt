-- A section is read as it was written.
use Rattle.std.proofs.Common.{◌≡◌, ℕ, zero, suc, ◌+◌, ◌*◌, ◌-◌, ◌^◌, ◌<◌, ◌≤◌, ◌==◌, ltb, leb, cond, Bool, true, false, inl, inr, List, [], ◌∷◌, ◌++◌, length, get_or, map, Some, is_some, refl, sym, ap, ◌∙◌, arith, append_assoc, length-append}
use Rattle.std.specs.List.{AllByRecursion, flat_map, position, position_or_len}
use Rattle.std.proofs.lemmas.Bool.{le-leb, lt-ltb, ltb-true, le-ltb, ltb-false}
use Rattle.std.proofs.lemmas.List.Sums.{passes_at_first}
use Rattle.std.proofs.lemmas.Bool.Decides.{nat_tests}
use Rattle.list_lemmas.proofs.Members.{In, all_in}
use Rattle.mo_bytes.specs.Number.{number, number_at, number_bytes}
use Rattle.mo_bytes.proofs.Numbers.{length-number_bytes, number-number_bytes}
use Rattle.std.proofs.Math.Seq.{drop-append_seam}
use Rattle.image_format.specs.Unwind.{unwind_index_entry_at, unwind_index_entry_bytes, unwind_lsda_entry_at, unwind_lsda_entry_bytes, regular_page_header_at, regular_page_header_bytes, regular_page_entry_at, regular_page_entry_bytes, compressed_page_header_at, compressed_page_header_bytes, compressed_page_entry_at, compressed_page_entry_bytes}
use Rattle.image_format.proofs.UnwindLemmas.{unwind_index_entry_read, unwind_lsda_entry_read, regular_page_header_read, regular_page_entry_read, compressed_page_header_read, compressed_page_entry_read}
use Rattle.image_format.specs.declared.unwind.UnwindInfoHeader.{UnwindInfoHeader}
use Rattle.image_format.specs.declared.unwind.UnwindIndexEntry.{UnwindIndexEntry}
use Rattle.image_format.specs.declared.unwind.UnwindLsdaEntry.{UnwindLsdaEntry}
use Rattle.image_format.specs.declared.unwind.RegularPageHeader.{RegularPageHeader}
use Rattle.image_format.specs.declared.unwind.RegularPageEntry.{RegularPageEntry}
use Rattle.image_format.specs.declared.unwind.CompressedPageHeader.{CompressedPageHeader}
use Rattle.unwind_out.specs.Lookup.{each_at, lies, regular_row, regular_rows, encoding_at, compressed_row, compressed_rows, page_rows, all_rows, lsda_row}
use Rattle.unwind_out.specs.Pages.{with_new, first_uses, encodings, first_function, IsNear, IsCompressible, compressed_entry, regular_page_header, compressed_page_header, regular_page, compressed_page, page_bytes, field, lsda_place, index_of}
use Rattle.unwind_out.proofs.Uses.{place as place_in, encodings_there}
use Rattle.unwind_out.proofs.Spelling.{length-regular_entry, length-compressed_entry, length-lsda_entry, length-index_entry, length-regular_header, length-compressed_header, length-flat, field_small}

-- a part of the section, behind `front`
pub record Stands (section front part : List ℕ) : Type 0 where
  pub rest : List ℕ
  pub is : section ≡ front ++ (part ++ rest)

pub stands_first : (section front a b : List ℕ) → Stands section front (a ++ b) → Stands section front a
stands_first section front a b s = record { rest = b ++ s.rest; is = s.is ∙ ap (λ (z : List ℕ). front ++ z) (append_assoc a b s.rest) }

pub stands_second : (section front a b : List ℕ) → Stands section front (a ++ b) → Stands section (front ++ a) b
stands_second section front a b s = record {
  rest = s.rest;
  is = s.is ∙ ap (λ (z : List ℕ). front ++ z) (append_assoc a b s.rest) ∙ sym (append_assoc front a (b ++ s.rest));
}

pub stands_within : (section front part : List ℕ) → Stands section front part → length front + length part ≤ length section
stands_within section front part s =
    let whole : length section ≡ length (front ++ (part ++ s.rest)) = ap length s.is in
    let first = length-append front (part ++ s.rest) in
    let second = length-append part s.rest in
    omega arith

pub stands_lies : (section front part : List ℕ) (size : ℕ) → Stands section front part → size ≤ length part → lies section (length front) size ≡ true
stands_lies section front part size s within =
    let all = stands_within section front part s in
    le-leb (length front + size) (length section) (omega arith)

-- what is read where the elements of a list stand
pub each_read : {X Y : Type 0} (f : ℕ → List Y) (bytes : X → List ℕ) (g : X → List Y) (width : ℕ) (section : List ℕ) (each : (x : X) → length (bytes x) ≡ width) (xs : List X) (front : List ℕ)
    → ((x : X) (before : List ℕ) → In x xs → Stands section before (bytes x) → f (length before) ≡ g x)
    → Stands section front (flat_map bytes xs) → each_at f width (length front) (length xs) ≡ flat_map g xs
unfolding each_at
each_read f bytes g width section each [] front reads s = refl
each_read {X} {Y} f bytes g width section each (x ∷ xs) front reads s =
    let first : f (length front) ≡ g x = reads x front (inl refl) (stands_first section front (bytes x) (flat_map bytes xs) s) in
    let next : length (front ++ bytes x) ≡ length front + width = length-append front (bytes x) ∙ ap (λ (n : ℕ). length front + n) (each x) in
    let later : each_at f width (length (front ++ bytes x)) (length xs) ≡ flat_map g xs = each_read f bytes g width section each xs (front ++ bytes x) (λ y before there. reads y before (inr there)) (stands_second section front (bytes x) (flat_map bytes xs) s) in
    ap (λ (n : ℕ). f (length front) ++ each_at f width n (length xs)) (sym next)
    ∙ ap (λ (ys : List Y). f (length front) ++ ys) later
    ∙ ap (λ (ys : List Y). ys ++ flat_map g xs) first

-- what is read at the place of a structure
pub read_there : {S : Type 0} (structure_at : List ℕ → ℕ → S) (structure_bytes : S → List ℕ) (section front : List ℕ) (s : S)
    → ((rest : List ℕ) → structure_at ((front ++ structure_bytes s) ++ rest) (length front) ≡ s)
    → Stands section front (structure_bytes s) → structure_at section (length front) ≡ s
read_there structure_at structure_bytes section front s reads stands =
    ap (λ (bytes : List ℕ). structure_at bytes (length front)) (stands.is ∙ sym (append_assoc front (structure_bytes s) stands.rest)) ∙ reads stands.rest

-- numbers of fields of 4 bytes
abbrev pub Small : ℕ → Type 0
Small n = n < 2 ^ 32

abbrev pub IsSmallRow : RegularPageEntry → Type 0
IsSmallRow row = Small row.function_offset × Small row.encoding

abbrev pub IsSmallLsda : UnwindLsdaEntry → Type 0
IsSmallLsda row = Small row.function_offset × Small row.lsda_offset

one_each : {X : Type 0} (xs : List X) → flat_map (λ (x : X). x ∷ []) xs ≡ xs
one_each [] = refl
one_each (x ∷ xs) = ap (λ ys. x ∷ ys) (one_each xs)

-- ---- language-specific data

lsda_there : (section before : List ℕ) (row : UnwindLsdaEntry) → IsSmallLsda row → Stands section before (unwind_lsda_entry_bytes row) → lsda_row section (length before) ≡ row ∷ []
unfolding lsda_row
lsda_there section before row small at =
    let whole : lies section (length before) 8 ≡ true = stands_lies section before (unwind_lsda_entry_bytes row) 8 at (let long = length-lsda_entry row in omega arith) in
    let read : unwind_lsda_entry_at section (length before) ≡ row = read_there unwind_lsda_entry_at unwind_lsda_entry_bytes section before row (λ rest. unwind_lsda_entry_read row before rest (small.0, (small.1, tt))) at in
    rw whole (ap (λ (r : UnwindLsdaEntry). r ∷ []) read)

pub lsdas_read : (section front : List ℕ) (rows : List UnwindLsdaEntry) → AllByRecursion IsSmallLsda rows → Stands section front (flat_map unwind_lsda_entry_bytes rows) → each_at (lsda_row section) 8 (length front) (length rows) ≡ rows
lsdas_read section front rows small stands =
    each_read (lsda_row section) unwind_lsda_entry_bytes (λ (x : UnwindLsdaEntry). x ∷ []) 8 section length-lsda_entry rows front
    (λ x before there at. lsda_there section before x (all_in IsSmallLsda rows x small there) at) stands
    ∙ one_each rows

-- ---- regular pages

regular_there : (section before : List ℕ) (row : RegularPageEntry) → IsSmallRow row → Stands section before (regular_page_entry_bytes row) → regular_row section (length before) ≡ row ∷ []
unfolding regular_row
regular_there section before row small at =
    let whole : lies section (length before) 8 ≡ true = stands_lies section before (regular_page_entry_bytes row) 8 at (let long = length-regular_entry row in omega arith) in
    let read : regular_page_entry_at section (length before) ≡ row = read_there regular_page_entry_at regular_page_entry_bytes section before row (λ rest. regular_page_entry_read row before rest (small.0, (small.1, tt))) at in
    rw whole (ap (λ (r : RegularPageEntry). r ∷ []) read)

pub regular_read : (section front : List ℕ) (rows : List RegularPageEntry) → AllByRecursion IsSmallRow rows → length rows ≤ 511 → Stands section front (regular_page rows) → regular_rows section (length front) ≡ rows
unfolding regular_rows regular_page
regular_read section front rows small few stands =
    let header = regular_page_header (length rows) in
    let head_stands : Stands section front (regular_page_header_bytes header) = stands_first section front (regular_page_header_bytes header) (flat_map regular_page_entry_bytes rows) stands in
    let rows_stand : Stands section (front ++ regular_page_header_bytes header) (flat_map regular_page_entry_bytes rows) = stands_second section front (regular_page_header_bytes header) (flat_map regular_page_entry_bytes rows) stands in
    let whole : lies section (length front) 8 ≡ true = stands_lies section front (regular_page_header_bytes header) 8 head_stands (let long = length-regular_header header in omega arith) in
    let head : regular_page_header_at section (length front) ≡ header = read_there regular_page_header_at regular_page_header_bytes section front header (λ rest. regular_page_header_read header front rest ((omega arith), ((omega arith), ((omega arith), tt)))) head_stands in
    let place : length (front ++ regular_page_header_bytes header) ≡ length front + 8 = length-append front (regular_page_header_bytes header) ∙ ap (λ (n : ℕ). length front + n) (length-regular_header header) in
    ap (λ (page : RegularPageHeader). cond (lies section (length front) 8) (each_at (regular_row section) 8 (length front + page.entry_offset) page.entry_count) []) head
    ∙ ap (λ (b : Bool). cond b (each_at (regular_row section) 8 (length front + 8) (length rows)) []) whole
    ∙ ap (λ (n : ℕ). each_at (regular_row section) 8 n (length rows)) (sym place)
    ∙ each_read (regular_row section) regular_page_entry_bytes (λ (x : RegularPageEntry). x ∷ []) 8 section length-regular_entry rows (front ++ regular_page_header_bytes header)
    (λ x before there at. regular_there section before x (all_in IsSmallRow rows x small there) at) rows_stand
    ∙ one_each rows

-- ---- compressed pages

some_number : (section : List ℕ) (at n : ℕ) → leb (at + 4) (length section) ≡ true → number 4 section at ≡ n → number_at 4 section at ≡ Some n
some_number section at n whole same = rw (whole, same) refl

number_there : (section before : List ℕ) (n : ℕ) → Small n → Stands section before (number_bytes 4 n) → number_at 4 section (length before) ≡ Some n
unfolding number
number_there section before n small stands =
    let whole : leb (length before + 4) (length section) ≡ true = stands_lies section before (number_bytes 4 n) 4 stands (let long = length-number_bytes 4 n in omega arith) in
    let read : number 4 (before ++ (number_bytes 4 n ++ stands.rest)) (length before) ≡ n = rw drop-append_seam (number-number_bytes 4 n stands.rest (omega arith)) in
    let same : number 4 section (length before) ≡ n = ap (λ (bytes : List ℕ). number 4 bytes (length before)) stands.is ∙ read in
    some_number section (length before) n whole same

-- a number of a list that stands in the section
pub numbers_at : (section front : List ℕ) (numbers : List ℕ) (k : ℕ) → AllByRecursion Small numbers → k < length numbers → Stands section front (flat_map (number_bytes 4) numbers) → number_at 4 section (length front + 4 * k) ≡ Some (get_or numbers k 0)
numbers_at section front [] k small within stands = absurd (omega arith)
numbers_at section front (n ∷ numbers) zero small within stands =
    let place : length front + 4 * 0 ≡ length front = omega arith in
    ap (number_at 4 section) place ∙ number_there section front n small.0 (stands_first section front (number_bytes 4 n) (flat_map (number_bytes 4) numbers) stands)
numbers_at section front (n ∷ numbers) (suc k) small within stands =
    let next : length (front ++ number_bytes 4 n) ≡ length front + 4 = length-append front (number_bytes 4 n) ∙ ap (λ (m : ℕ). length front + m) (length-number_bytes 4 n) in
    let place : length (front ++ number_bytes 4 n) + 4 * k ≡ length front + 4 * suc k = omega arith in
    ap (number_at 4 section) (sym place)
    ∙ numbers_at section (front ++ number_bytes 4 n) numbers k small.1 (omega arith) (stands_second section front (number_bytes 4 n) (flat_map (number_bytes 4) numbers) stands)

is_same : (a b : ℕ) → (a == b) ≡ true → a ≡ b
is_same a b e = grind (arith, nat_tests)

-- the encoding that an index of a page names
encoding_there : (section front : List ℕ) (header : UnwindInfoHeader) (rows : List RegularPageEntry) (numbers : List ℕ) (page : CompressedPageHeader) (page_at k : ℕ) (encoding : ℕ)
    → header.common_encodings_count ≡ 0 → page.encodings_count ≡ length numbers → page_at + page.encodings_offset ≡ length front
    → AllByRecursion Small numbers → k < length numbers → get_or numbers k 0 ≡ encoding → Stands section front (flat_map (number_bytes 4) numbers)
    → encoding_at section header page_at page k ≡ Some encoding
unfolding encoding_at
encoding_there section front header rows numbers page page_at k encoding none count place small within is stands =
    let own : k - header.common_encodings_count ≡ k = omega arith in
    let not_common : ltb k header.common_encodings_count ≡ false = le-ltb k header.common_encodings_count (omega arith) in
    let of_page : ltb k page.encodings_count ≡ true = lt-ltb k page.encodings_count (omega arith) in
    rw (own, not_common, of_page, place) (numbers_at section front numbers k small within stands ∙ ap Some is)

-- a row of a compressed page, where its encodings stand
compressed_there : (section before back : List ℕ) (header : UnwindInfoHeader) (first page_at : ℕ) (page : CompressedPageHeader) (numbers : List ℕ) (row : RegularPageEntry)
    → header.common_encodings_count ≡ 0 → page.encodings_count ≡ length numbers → page_at + page.encodings_offset ≡ length back
    → AllByRecursion Small numbers → length numbers ≤ 256 → first ≤ row.function_offset → row.function_offset < first + 2 ^ 24
    → position_or_len (λ other. other == row.encoding) numbers < length numbers
    → Stands section back (flat_map (number_bytes 4) numbers) → Stands section before (compressed_page_entry_bytes (compressed_entry first numbers row))
    → compressed_row section header first page_at page (length before) ≡ row ∷ []
unfolding compressed_row
compressed_there section before back header first page_at page numbers row none count place small few from near there numbers_stand at =
    let entry = compressed_entry first numbers row in
    let whole : lies section (length before) 4 ≡ true = stands_lies section before (compressed_page_entry_bytes entry) 4 at (let long = length-compressed_entry entry in omega arith) in
    let read : compressed_page_entry_at section (length before) ≡ entry = read_there compressed_page_entry_at compressed_page_entry_bytes section before entry (λ rest. compressed_page_entry_read entry before rest (omega arith) (omega arith)) at in
    let index = position_or_len (λ other. other == row.encoding) numbers in
    let same : get_or numbers index 0 ≡ row.encoding = is_same (get_or numbers index 0) row.encoding (passes_at_first (λ other. other == row.encoding) numbers 0 there) in
    let encoding : encoding_at section header page_at page index ≡ Some row.encoding = encoding_there section back header [] numbers page page_at index row.encoding none count place small there same numbers_stand in
    let function : first + (row.function_offset - first) ≡ row.function_offset = omega arith in
    rw (whole, read, encoding, function) refl

pub compressed_read : (section front : List ℕ) (header : UnwindInfoHeader) (rows : List RegularPageEntry)
    → header.common_encodings_count ≡ 0 → AllByRecursion IsSmallRow rows → AllByRecursion Small (encodings rows) → IsCompressible rows
    → AllByRecursion (λ row. first_function rows ≤ row.function_offset) rows → Stands section front (compressed_page rows)
    → compressed_rows section header (first_function rows) (length front) ≡ rows
unfolding compressed_rows compressed_page
compressed_read section front header rows none small small_encodings fits rise stands =
    let first = first_function rows in
    let numbers = encodings rows in
    let page = compressed_page_header (length rows) (length numbers) in
    let rows_bytes = flat_map (λ (row : RegularPageEntry). compressed_page_entry_bytes (compressed_entry first numbers row)) rows in
    let head = compressed_page_header_bytes page in
    let front_stands : Stands section front (head ++ rows_bytes) = stands_first section front (head ++ rows_bytes) (flat_map (number_bytes 4) numbers) stands in
    let numbers_stand : Stands section (front ++ (head ++ rows_bytes)) (flat_map (number_bytes 4) numbers) = stands_second section front (head ++ rows_bytes) (flat_map (number_bytes 4) numbers) stands in
    let head_stands : Stands section front head = stands_first section front head rows_bytes front_stands in
    let rows_stand : Stands section (front ++ head) rows_bytes = stands_second section front head rows_bytes front_stands in
    let head_long = length-compressed_header page in
    let rows_long : length rows_bytes ≡ 4 * length rows = length-flat (λ (row : RegularPageEntry). compressed_page_entry_bytes (compressed_entry first numbers row)) 4 (λ row. length-compressed_entry (compressed_entry first numbers row)) rows in
    let room = fits.room in
    let indexed = fits.indexed in
    let whole : lies section (length front) 12 ≡ true = stands_lies section front head 12 head_stands (omega arith) in
    let read : compressed_page_header_at section (length front) ≡ page = read_there compressed_page_header_at compressed_page_header_bytes section front page (λ rest. compressed_page_header_read page front rest ((omega arith), ((omega arith), ((omega arith), ((omega arith), ((omega arith), tt)))))) head_stands in
    let place : length (front ++ head) ≡ length front + 12 = length-append front head ∙ ap (λ (n : ℕ). length front + n) head_long in
    let numbers_place : length front + (12 + 4 * length rows) ≡ length (front ++ (head ++ rows_bytes)) = (let one = length-append front (head ++ rows_bytes) in let two = length-append head rows_bytes in omega arith) in
    ap (λ (p : CompressedPageHeader). cond (lies section (length front) 12) (each_at (compressed_row section header first (length front) p) 4 (length front + p.entry_offset) p.entry_count) []) read
    ∙ ap (λ (b : Bool). cond b (each_at (compressed_row section header first (length front) page) 4 (length front + 12) (length rows)) []) whole
    ∙ ap (λ (n : ℕ). each_at (compressed_row section header first (length front) page) 4 n (length rows)) (sym place)
    ∙ each_read (compressed_row section header first (length front) page) (λ (row : RegularPageEntry). compressed_page_entry_bytes (compressed_entry first numbers row)) (λ (x : RegularPageEntry). x ∷ []) 4 section (λ row. length-compressed_entry (compressed_entry first numbers row)) rows (front ++ head)
    (λ x before there at. compressed_there section before (front ++ (head ++ rows_bytes)) header first (length front) page numbers x none refl numbers_place small_encodings indexed
    (all_in (λ (row : RegularPageEntry). first ≤ row.function_offset) rows x rise there) (all_in (IsNear first) rows x fits.near there)
    (all_in (λ (row : RegularPageEntry). place_in numbers row.encoding < length numbers) rows x (encodings_there rows) there) numbers_stand at) rows_stand
    ∙ one_each rows

-- ---- pages

abbrev pub Rises : List RegularPageEntry → Type 0
Rises [] = Unit {0}
Rises (row ∷ rows) = AllByRecursion (λ other. row.function_offset ≤ other.function_offset) rows × Rises rows

-- what a page that is read back has
pub record IsWhole (page : List RegularPageEntry) : Type 0 where
  pub small : AllByRecursion IsSmallRow page
  pub rises : Rises page
  pub fits : 511 < length page → IsCompressible page

first_low : (rows : List RegularPageEntry) → Rises rows → AllByRecursion (λ row. first_function rows ≤ row.function_offset) rows
first_low [] rise = tt
first_low (row ∷ rows) rise = ((omega arith), rise.0)

push_small : (seen : List ℕ) (n : ℕ) → AllByRecursion Small seen → Small n → AllByRecursion Small (seen ++ n ∷ [])
push_small [] n a b = (b, tt)
push_small (x ∷ seen) n a b = (a.0, push_small seen n a.1 b)

new_small : (seen : List ℕ) (n : ℕ) (there : Bool) → AllByRecursion Small seen → Small n → AllByRecursion Small (cond there seen (seen ++ n ∷ []))
new_small seen n true a b = a
new_small seen n false a b = push_small seen n a b

uses_small : (seen numbers : List ℕ) → AllByRecursion Small seen → AllByRecursion Small numbers → AllByRecursion Small (first_uses seen numbers)
unfolding first_uses
uses_small seen [] a b = a
uses_small seen (n ∷ numbers) a b = uses_small (with_new seen n) numbers (new_small seen n (is_some (position (λ other. other == n) seen)) a b.0) b.1

second_small : (rows : List RegularPageEntry) → AllByRecursion IsSmallRow rows → AllByRecursion Small (map (λ row. row.encoding) rows)
second_small [] small = tt
second_small (row ∷ rows) small = (small.0.1, second_small rows small.1)

encodings_small : (rows : List RegularPageEntry) → AllByRecursion IsSmallRow rows → AllByRecursion Small (encodings rows)
unfolding encodings
encodings_small rows small = uses_small [] (map (λ row. row.encoding) rows) tt (second_small rows small)

abbrev page_entry : List RegularPageEntry → ℕ → ℕ → UnwindIndexEntry
page_entry page at lsda = record { function_offset = first_function page; page_offset = at; lsda_offset = lsda }

page_kind : (section : List ℕ) (header : UnwindInfoHeader) (entry : UnwindIndexEntry) → number_at 4 section entry.page_offset ≡ Some 2 → page_rows section header entry ≡ regular_rows section entry.page_offset
unfolding page_rows
page_kind section header entry e = rw e refl

page_kind_compressed : (section : List ℕ) (header : UnwindInfoHeader) (entry : UnwindIndexEntry) → number_at 4 section entry.page_offset ≡ Some 3 → page_rows section header entry ≡ compressed_rows section header entry.function_offset entry.page_offset
unfolding page_rows
page_kind_compressed section header entry e = rw e refl

kind_of_regular : (section front : List ℕ) (rows : List RegularPageEntry) → Stands section front (regular_page rows) → number_at 4 section (length front) ≡ Some 2
unfolding regular_page
kind_of_regular section front rows stands =
    let header = regular_page_header (length rows) in
    let head : Stands section front (regular_page_header_bytes header) = stands_first section front (regular_page_header_bytes header) (flat_map regular_page_entry_bytes rows) stands in
    number_there section front 2 (omega arith) (stands_first section front (number_bytes 4 2) (number_bytes 2 8 ++ (number_bytes 2 (length rows) ++ [])) head)

kind_of_compressed : (section front : List ℕ) (rows : List RegularPageEntry) → Stands section front (compressed_page rows) → number_at 4 section (length front) ≡ Some 3
unfolding compressed_page
kind_of_compressed section front rows stands =
    let page = compressed_page_header (length rows) (length (encodings rows)) in
    let rows_bytes = flat_map (λ (row : RegularPageEntry). compressed_page_entry_bytes (compressed_entry (first_function rows) (encodings rows) row)) rows in
    let both = stands_first section front (compressed_page_header_bytes page ++ rows_bytes) (flat_map (number_bytes 4) (encodings rows)) stands in
    let head : Stands section front (compressed_page_header_bytes page) = stands_first section front (compressed_page_header_bytes page) rows_bytes both in
    number_there section front 3 (omega arith) (stands_first section front (number_bytes 4 3) (number_bytes 2 12 ++ (number_bytes 2 (length rows) ++ (number_bytes 2 (12 + 4 * length rows) ++ (number_bytes 2 (length (encodings rows)) ++ [])))) head)

page_by : (section front : List ℕ) (header : UnwindInfoHeader) (page : List RegularPageEntry) (lsda : ℕ) (many : Bool) → ltb 511 (length page) ≡ many → header.common_encodings_count ≡ 0 → IsWhole page → Stands section front (cond many (compressed_page page) (regular_page page)) → page_rows section header (page_entry page (length front) lsda) ≡ page
page_by section front header page lsda true e none whole stands =
    page_kind_compressed section header (page_entry page (length front) lsda) (kind_of_compressed section front page stands)
    ∙ compressed_read section front header page none whole.small (encodings_small page whole.small) (whole.fits (ltb-true 511 (length page) e)) (first_low page whole.rises) stands
page_by section front header page lsda false e none whole stands =
    page_kind section header (page_entry page (length front) lsda) (kind_of_regular section front page stands)
    ∙ regular_read section front page whole.small (ltb-false 511 (length page) e) stands

pub page_read : (section front : List ℕ) (header : UnwindInfoHeader) (page : List RegularPageEntry) (lsda : ℕ) → header.common_encodings_count ≡ 0 → IsWhole page → Stands section front (page_bytes page) → page_rows section header (page_entry page (length front) lsda) ≡ page
unfolding page_bytes
page_read section front header page lsda none whole stands = page_by section front header page lsda (ltb 511 (length page)) refl none whole stands

abbrev pub joined_pages : List (List RegularPageEntry) → List RegularPageEntry
joined_pages pages = flat_map (λ (page : List RegularPageEntry). page) pages

pub pages_read : (section front : List ℕ) (header : UnwindInfoHeader) (lsda_at : ℕ) (lsdas : List UnwindLsdaEntry) (pages : List (List RegularPageEntry)) → header.common_encodings_count ≡ 0 → length section < 2 ^ 32 → AllByRecursion IsWhole pages → Stands section front (flat_map page_bytes pages)
    → flat_map (page_rows section header) (index_of lsda_at lsdas (length front) pages) ≡ joined_pages pages
unfolding index_of
pages_read section front header lsda_at lsdas [] none small whole stands = refl
pages_read section front header lsda_at lsdas (page ∷ pages) none small whole stands =
    let own : Stands section front (page_bytes page) = stands_first section front (page_bytes page) (flat_map page_bytes pages) stands in
    let within = stands_within section front (page_bytes page) own in
    let place : field (length front) ≡ length front = omega arith in
    let lsda = field (lsda_place lsda_at lsdas (first_function page)) in
    let first : page_rows section header (page_entry page (field (length front)) lsda) ≡ page = ap (λ (n : ℕ). page_rows section header (page_entry page n lsda)) place ∙ page_read section front header page lsda none whole.0 own in
    let next : length (front ++ page_bytes page) ≡ length front + length (page_bytes page) = length-append front (page_bytes page) in
    let later = pages_read section (front ++ page_bytes page) header lsda_at lsdas pages none small whole.1 (stands_second section front (page_bytes page) (flat_map page_bytes pages) stands) in
    ap (λ (rows : List RegularPageEntry). rows ++ flat_map (page_rows section header) (index_of lsda_at lsdas (length front + length (page_bytes page)) pages)) first
    ∙ ap (λ (n : ℕ). page ++ flat_map (page_rows section header) (index_of lsda_at lsdas n pages)) (sym next)
    ∙ ap (λ (rows : List RegularPageEntry). page ++ rows) later

abbrev pub IsSmallEntry : UnwindIndexEntry → Type 0
IsSmallEntry entry = Small entry.function_offset × Small entry.page_offset × Small entry.lsda_offset

pub entry_there : (section before : List ℕ) (entry : UnwindIndexEntry) → IsSmallEntry entry → Stands section before (unwind_index_entry_bytes entry) → unwind_index_entry_at section (length before) ≡ entry
entry_there section before entry small at = read_there unwind_index_entry_at unwind_index_entry_bytes section before entry (λ rest. unwind_index_entry_read entry before rest (small.0, (small.1, (small.2, tt)))) at

pub first_small : (page : List RegularPageEntry) → AllByRecursion IsSmallRow page → Small (first_function page)
first_small [] small = omega arith
first_small (row ∷ rows) small = small.0.0

index_small : (lsda_at : ℕ) (lsdas : List UnwindLsdaEntry) (page_at : ℕ) (pages : List (List RegularPageEntry)) → AllByRecursion IsWhole pages → AllByRecursion IsSmallEntry (index_of lsda_at lsdas page_at pages)
unfolding index_of
index_small lsda_at lsdas page_at [] whole = tt
index_small lsda_at lsdas page_at (page ∷ pages) whole =
    ((first_small page whole.0.small, field_small page_at, field_small (lsda_place lsda_at lsdas (first_function page))), index_small lsda_at lsdas (page_at + length (page_bytes page)) pages whole.1)

pub length-index : (lsda_at : ℕ) (lsdas : List UnwindLsdaEntry) (page_at : ℕ) (pages : List (List RegularPageEntry)) → length (index_of lsda_at lsdas page_at pages) ≡ length pages
unfolding index_of
length-index lsda_at lsdas page_at [] = refl
length-index lsda_at lsdas page_at (page ∷ pages) = ap suc (length-index lsda_at lsdas (page_at + length (page_bytes page)) pages)

pub rows_read : (section index_front front : List ℕ) (header : UnwindInfoHeader) (lsda_at : ℕ) (lsdas : List UnwindLsdaEntry) (pages : List (List RegularPageEntry))
    → header.common_encodings_count ≡ 0 → header.index_offset ≡ length index_front → header.index_count ≡ length pages + 1 → length section < 2 ^ 32 → AllByRecursion IsWhole pages
    → Stands section index_front (flat_map unwind_index_entry_bytes (index_of lsda_at lsdas (length front) pages)) → Stands section front (flat_map page_bytes pages)
    → all_rows section header ≡ joined_pages pages
unfolding all_rows
rows_read section index_front front header lsda_at lsdas pages none offset count small whole index_stands stands =
    let index = index_of lsda_at lsdas (length front) pages in
    let counted : header.index_count - 1 ≡ length index = (let long = length-index lsda_at lsdas (length front) pages in omega arith) in
    ap (λ (n : ℕ). each_at (λ (at : ℕ). page_rows section header (unwind_index_entry_at section at)) 12 header.index_offset n) counted
    ∙ ap (λ (n : ℕ). each_at (λ (at : ℕ). page_rows section header (unwind_index_entry_at section at)) 12 n (length index)) offset
    ∙ each_read (λ (at : ℕ). page_rows section header (unwind_index_entry_at section at)) unwind_index_entry_bytes (page_rows section header) 12 section length-index_entry index index_front
    (λ entry before there at. ap (page_rows section header) (entry_there section before entry (all_in IsSmallEntry index entry (index_small lsda_at lsdas (length front) pages whole) there) at)) index_stands
    ∙ pages_read section front header lsda_at lsdas pages none small whole stands
