-- A whole section is read as it was written.
use Rattle.std.proofs.Common.{◌≡◌, ℕ, zero, suc, ◌+◌, ◌*◌, ◌-◌, ◌/◌, ◌^◌, ◌<◌, ◌≤◌, ◌&&◌, ltb, leb, cond, Bool, true, false, List, [], ◌∷◌, ◌++◌, length, take, drop, min, None, refl, sym, ap, subst, ◌∙◌, arith, append-nil, length-append}
use Rattle.std.specs.List.{AllByRecursion, flat_map}
use Rattle.std.specs.Option.{option_map}
use Rattle.std.proofs.lemmas.Bool.{le-leb, lt-ltb}
use Rattle.std.proofs.lemmas.List.{length-take, take_min, take-append-drop}
use Rattle.mo_bytes.specs.Number.{number_bytes}
use Rattle.mo_bytes.proofs.Numbers.{length-number_bytes}
use Rattle.image_format.specs.Unwind.{unwind_info_header_at, unwind_info_header_bytes, unwind_index_entry_at, unwind_index_entry_bytes, unwind_lsda_entry_bytes}
use Rattle.image_format.proofs.UnwindLemmas.{unwind_info_header_read}
use Rattle.image_format.specs.declared.unwind.UnwindInfoHeader.{UnwindInfoHeader}
use Rattle.image_format.specs.declared.unwind.UnwindIndexEntry.{UnwindIndexEntry}
use Rattle.image_format.specs.declared.unwind.UnwindLsdaEntry.{UnwindLsdaEntry}
use Rattle.image_format.specs.declared.unwind.RegularPageEntry.{RegularPageEntry}
use Rattle.unwind_out.specs.Lookup.{lies, all_rows, all_lsda_rows, row_at, hit_of, has_end, unwind_in, unwind}
use Rattle.unwind_out.specs.Pages.{IsCompressible, IsFirstPage, ArePages, page_length, first_function, page_bytes, field, lsda_place, index_of, last_entry, info_header, section_bytes}
use Rattle.unwind_out.proofs.Spelling.{length-flat, length-index_entry, length-lsda_entry, length-info_header, field_small}
use Rattle.unwind_out.proofs.Reading.{Stands, stands_first, stands_second, stands_within, stands_lies, Small, IsSmallRow, IsSmallLsda, IsWhole, Rises, joined_pages, first_small, rows_read, lsdas_read, length-index, entry_there, read_there}

-- a function not after those of the rows on language-specific data
lsda_first : (lsda_at function : ℕ) (lsdas : List UnwindLsdaEntry) → AllByRecursion (λ (row : UnwindLsdaEntry). function ≤ row.function_offset) lsdas → lsda_place lsda_at lsdas function ≡ lsda_at
lsda_first lsda_at function [] all = omega arith
lsda_first lsda_at function (row ∷ lsdas) all = let low = le-leb function row.function_offset all.0 in rw low (omega arith)

find_by : (section : List ℕ) (header : UnwindInfoHeader) (first last : UnwindIndexEntry) (lsdas : List UnwindLsdaEntry) (rows : List RegularPageEntry) (offset : ℕ)
    → has_end section header ≡ true → unwind_index_entry_at section header.index_offset ≡ first → unwind_index_entry_at section (header.index_offset + 12 * (header.index_count - 1)) ≡ last
    → all_lsda_rows section first last ≡ lsdas → all_rows section header ≡ rows
    → unwind_in section header offset ≡ cond (ltb offset last.function_offset) (option_map (hit_of lsdas) (row_at offset rows)) None
unfolding unwind_in
find_by section header first last lsdas rows offset ends first_is last_is lsdas_are rows_are =
    let last_there = unwind_index_entry_at section (header.index_offset + 12 * (header.index_count - 1)) in
    ap (λ (f : UnwindIndexEntry). cond (has_end section header && ltb offset last_there.function_offset) (option_map (hit_of (all_lsda_rows section f last_there)) (row_at offset (all_rows section header))) None) first_is
    ∙ ap (λ (l : UnwindIndexEntry). cond (has_end section header && ltb offset l.function_offset) (option_map (hit_of (all_lsda_rows section first l)) (row_at offset (all_rows section header))) None) last_is
    ∙ ap (λ (b : Bool). cond (b && ltb offset last.function_offset) (option_map (hit_of (all_lsda_rows section first last)) (row_at offset (all_rows section header))) None) ends
    ∙ ap (λ (ls : List UnwindLsdaEntry). cond (ltb offset last.function_offset) (option_map (hit_of ls) (row_at offset (all_rows section header))) None) lsdas_are
    ∙ ap (λ (rs : List RegularPageEntry). cond (ltb offset last.function_offset) (option_map (hit_of lsdas) (row_at offset rs)) None) rows_are

find_header : (section : List ℕ) (header : UnwindInfoHeader) (offset : ℕ) → lies section 0 28 ≡ true → unwind_info_header_at section 0 ≡ header → unwind section offset ≡ unwind_in section header offset
unfolding unwind
find_header section header offset whole is =
    ap (λ (b : Bool). cond b (unwind_in section (unwind_info_header_at section 0) offset) None) whole ∙ ap (λ (h : UnwindInfoHeader). unwind_in section h offset) is

lsdas_between : (section : List ℕ) (first last : UnwindIndexEntry) (lsdas : List UnwindLsdaEntry) (front : List ℕ) → first.lsda_offset ≡ length front → last.lsda_offset ≡ length front + 8 * length lsdas
    → AllByRecursion IsSmallLsda lsdas → Stands section front (flat_map unwind_lsda_entry_bytes lsdas) → all_lsda_rows section first last ≡ lsdas
unfolding all_lsda_rows
lsdas_between section first last lsdas front from to small stands =
    let count : (last.lsda_offset - first.lsda_offset) / 8 ≡ length lsdas = omega arith in
    rw (count, from) (lsdas_read section front lsdas small stands)

pub header_read : (section slots : List ℕ) (count : ℕ) → length slots ≤ 3 → Stands section [] (unwind_info_header_bytes (info_header (length slots) count)) → unwind_info_header_at section 0 ≡ info_header (length slots) count
header_read section slots count few stands =
    let header = info_header (length slots) count in
    let counted = field_small (count + 1) in
    read_there unwind_info_header_at unwind_info_header_bytes section [] header
    (λ rest. unwind_info_header_read header [] rest ((omega arith), ((omega arith), ((omega arith), ((omega arith), ((omega arith), ((omega arith), (counted, tt)))))))) stands

ends_there : (section : List ℕ) (header : UnwindInfoHeader) → 0 < header.index_count → header.index_offset + 12 * header.index_count ≤ length section → has_end section header ≡ true
ends_there section header some within =
    let first : ltb 0 header.index_count ≡ true = lt-ltb 0 header.index_count some in
    let second : leb (header.index_offset + 12 * header.index_count) (length section) ≡ true = le-leb (header.index_offset + 12 * header.index_count) (length section) within in
    rw (first, second) refl

first_entry_read : (section front : List ℕ) (lsda_at : ℕ) (lsdas : List UnwindLsdaEntry) (page_at : ℕ) (page : List RegularPageEntry) (pages : List (List RegularPageEntry)) → Small (first_function page)
    → Stands section front (flat_map unwind_index_entry_bytes (index_of lsda_at lsdas page_at (page ∷ pages)))
    → unwind_index_entry_at section (length front) ≡ record { function_offset = first_function page; page_offset = field page_at; lsda_offset = field (lsda_place lsda_at lsdas (first_function page)) }
unfolding index_of
first_entry_read section front lsda_at lsdas page_at page pages small stands =
    let entry : UnwindIndexEntry = record { function_offset = first_function page; page_offset = field page_at; lsda_offset = field (lsda_place lsda_at lsdas (first_function page)) } in
    entry_there section front entry (small, field_small page_at, field_small (lsda_place lsda_at lsdas (first_function page)))
    (stands_first section front (unwind_index_entry_bytes entry) (flat_map unwind_index_entry_bytes (index_of lsda_at lsdas (page_at + length (page_bytes page)) pages)) stands)

first_of_whole : (page : List RegularPageEntry) → IsWhole page → Small (first_function page)
first_of_whole page whole = first_small page whole.small

-- the parts of a section, each behind those before it
pub record HasParts (section slots : List ℕ) (lsdas : List UnwindLsdaEntry) (end : ℕ) (pages : List (List RegularPageEntry)) : Type 0 where
  pub slot_front : List ℕ
  pub index_front : List ℕ
  pub last_front : List ℕ
  pub lsda_front : List ℕ
  pub page_front : List ℕ
  pub header : Stands section [] (unwind_info_header_bytes (info_header (length slots) (length pages)))
  pub slot : Stands section slot_front (flat_map (number_bytes 4) slots)
  pub index : Stands section index_front (flat_map unwind_index_entry_bytes (index_of (length lsda_front) lsdas (length page_front) pages))
  pub last : Stands section last_front (unwind_index_entry_bytes (last_entry end (length page_front)))
  pub lsda : Stands section lsda_front (flat_map unwind_lsda_entry_bytes lsdas)
  pub page : Stands section page_front (flat_map page_bytes pages)
  pub slot_at : length slot_front ≡ 28
  pub index_at : length index_front ≡ 28 + 4 * length slots
  pub last_at : length last_front ≡ 28 + 4 * length slots + 12 * length pages
  pub lsda_at : length lsda_front ≡ length last_front + 12
  pub page_at : length page_front ≡ length lsda_front + 8 * length lsdas

parts_by : (section slots : List ℕ) (lsdas : List UnwindLsdaEntry) (end : ℕ) (pages : List (List RegularPageEntry)) (lsda_at page_at : ℕ)
    → lsda_at ≡ 28 + 4 * length slots + 12 * (length pages + 1) → page_at ≡ lsda_at + 8 * length lsdas
    → section ≡ ((((unwind_info_header_bytes (info_header (length slots) (length pages)) ++ flat_map (number_bytes 4) slots) ++ flat_map unwind_index_entry_bytes (index_of lsda_at lsdas page_at pages)) ++ unwind_index_entry_bytes (last_entry end page_at)) ++ flat_map unwind_lsda_entry_bytes lsdas) ++ flat_map page_bytes pages
    → HasParts section slots lsdas end pages
parts_by section slots lsdas end pages lsda_at page_at lsda_is page_is is =
    let header = info_header (length slots) (length pages) in
    let index = index_of lsda_at lsdas page_at pages in
    let last = last_entry end page_at in
    let a = unwind_info_header_bytes header in
    let b = flat_map (number_bytes 4) slots in
    let c = flat_map unwind_index_entry_bytes index in
    let d = unwind_index_entry_bytes last in
    let e = flat_map unwind_lsda_entry_bytes lsdas in
    let f = flat_map page_bytes pages in
    let all : Stands section [] (((((a ++ b) ++ c) ++ d) ++ e) ++ f) = record { rest = []; is = is ∙ sym (append-nil (((((a ++ b) ++ c) ++ d) ++ e) ++ f)) } in
    let five : Stands section [] ((((a ++ b) ++ c) ++ d) ++ e) = stands_first section [] ((((a ++ b) ++ c) ++ d) ++ e) f all in
    let four' : Stands section [] (((a ++ b) ++ c) ++ d) = stands_first section [] (((a ++ b) ++ c) ++ d) e five in
    let three : Stands section [] ((a ++ b) ++ c) = stands_first section [] ((a ++ b) ++ c) d four' in
    let two' : Stands section [] (a ++ b) = stands_first section [] (a ++ b) c three in
    let la : length a ≡ 28 = length-info_header header in
    let lb : length b ≡ 4 * length slots = length-flat (number_bytes 4) 4 (length-number_bytes 4) slots in
    let li : length index ≡ length pages = length-index lsda_at lsdas page_at pages in
    let lc : length c ≡ 12 * length index = length-flat unwind_index_entry_bytes 12 length-index_entry index in
    let ld : length d ≡ 12 = length-index_entry last in
    let le : length e ≡ 8 * length lsdas = length-flat unwind_lsda_entry_bytes 8 length-lsda_entry lsdas in
    let lab : length (a ++ b) ≡ length a + length b = length-append a b in
    let labc : length ((a ++ b) ++ c) ≡ length (a ++ b) + length c = length-append (a ++ b) c in
    let labcd : length (((a ++ b) ++ c) ++ d) ≡ length ((a ++ b) ++ c) + length d = length-append ((a ++ b) ++ c) d in
    let labcde : length ((((a ++ b) ++ c) ++ d) ++ e) ≡ length (((a ++ b) ++ c) ++ d) + length e = length-append (((a ++ b) ++ c) ++ d) e in
    let lsda_same : lsda_at ≡ length (((a ++ b) ++ c) ++ d) = omega arith in
    let page_same : page_at ≡ length ((((a ++ b) ++ c) ++ d) ++ e) = omega arith in
    record {
      slot_front = a;
      index_front = a ++ b;
      last_front = (a ++ b) ++ c;
      lsda_front = ((a ++ b) ++ c) ++ d;
      page_front = (((a ++ b) ++ c) ++ d) ++ e;
      header = stands_first section [] a b two';
      slot = stands_second section [] a b two';
      index =
          subst (λ (n : ℕ). Stands section (a ++ b) (flat_map unwind_index_entry_bytes (index_of (length (((a ++ b) ++ c) ++ d)) lsdas n pages))) page_same
          (subst (λ (n : ℕ). Stands section (a ++ b) (flat_map unwind_index_entry_bytes (index_of n lsdas page_at pages))) lsda_same (stands_second section [] (a ++ b) c three));
      last = subst (λ (n : ℕ). Stands section ((a ++ b) ++ c) (unwind_index_entry_bytes (last_entry end n))) page_same (stands_second section [] ((a ++ b) ++ c) d four');
      lsda = stands_second section [] (((a ++ b) ++ c) ++ d) e five;
      page = stands_second section [] ((((a ++ b) ++ c) ++ d) ++ e) f all;
      slot_at = la;
      index_at = omega arith;
      last_at = omega arith;
      lsda_at = omega arith;
      page_at = omega arith;
    }

pub parts_of : (section slots : List ℕ) (lsdas : List UnwindLsdaEntry) (end : ℕ) (pages : List (List RegularPageEntry)) → section ≡ section_bytes slots lsdas end pages → HasParts section slots lsdas end pages
unfolding section_bytes
parts_of section slots lsdas end pages is =
    parts_by section slots lsdas end pages (28 + 4 * length slots + 12 * (length pages + 1)) (28 + 4 * length slots + 12 * (length pages + 1) + 8 * length lsdas) refl refl is

pub parts_read : (section slots : List ℕ) (lsdas : List UnwindLsdaEntry) (end : ℕ) (page : List RegularPageEntry) (pages : List (List RegularPageEntry)) (offset : ℕ)
    → HasParts section slots lsdas end (page ∷ pages) → length section < 2 ^ 32 → length slots ≤ 3 → Small end → AllByRecursion IsSmallLsda lsdas → AllByRecursion IsWhole (page ∷ pages)
    → AllByRecursion (λ (row : UnwindLsdaEntry). first_function page ≤ row.function_offset) lsdas
    → unwind section offset ≡ cond (ltb offset end) (option_map (hit_of lsdas) (row_at offset (joined_pages (page ∷ pages)))) None
parts_read section slots lsdas end page pages offset parts small few end_small lsdas_small whole after =
    let count = length (page ∷ pages) in
    let header = info_header (length slots) count in
    let first : UnwindIndexEntry = record { function_offset = first_function page; page_offset = field (length parts.page_front); lsda_offset = field (lsda_place (length parts.lsda_front) lsdas (first_function page)) } in
    let last : UnwindIndexEntry = last_entry end (length parts.page_front) in
    let index_at = parts.index_at in
    let last_at = parts.last_at in
    let lsda_at = parts.lsda_at in
    let page_at = parts.page_at in
    let pages_within = stands_within section parts.page_front (flat_map page_bytes (page ∷ pages)) parts.page in
    let counted : field (count + 1) ≡ count + 1 = omega arith in
    let page_field : field (length parts.page_front) ≡ length parts.page_front = omega arith in
    let lsda_field : field (length parts.lsda_front) ≡ length parts.lsda_front = omega arith in
    let head : lies section 0 28 ≡ true = stands_lies section [] (unwind_info_header_bytes header) 28 parts.header (let long = length-info_header header in omega arith) in
    let ends : has_end section header ≡ true = ends_there section header (omega arith) (omega arith) in
    let first_is : unwind_index_entry_at section header.index_offset ≡ first =
    ap (unwind_index_entry_at section) (sym index_at) ∙ first_entry_read section parts.index_front (length parts.lsda_front) lsdas (length parts.page_front) page pages (first_of_whole page whole.0) parts.index in
    let last_place : header.index_offset + 12 * (header.index_count - 1) ≡ length parts.last_front = omega arith in
    let last_is : unwind_index_entry_at section (header.index_offset + 12 * (header.index_count - 1)) ≡ last =
    ap (unwind_index_entry_at section) last_place ∙ entry_there section parts.last_front last (end_small, (omega arith), field_small (length parts.page_front)) parts.last in
    let from : first.lsda_offset ≡ length parts.lsda_front = ap field (lsda_first (length parts.lsda_front) (first_function page) lsdas after) ∙ lsda_field in
    let to : last.lsda_offset ≡ length parts.lsda_front + 8 * length lsdas = page_field ∙ page_at in
    let lsdas_are : all_lsda_rows section first last ≡ lsdas = lsdas_between section first last lsdas parts.lsda_front from to lsdas_small parts.lsda in
    let rows_are : all_rows section header ≡ joined_pages (page ∷ pages) =
    rows_read section parts.index_front parts.page_front header (length parts.lsda_front) lsdas (page ∷ pages) refl (sym index_at) counted small whole parts.index parts.page in
    find_header section header offset head (header_read section slots count few parts.header)
    ∙ find_by section header first last lsdas (joined_pages (page ∷ pages)) offset ends first_is last_is lsdas_are rows_are

-- ---- pages that were cut are whole

front_back : {X : Type 0} (n : ℕ) (xs : List X) → take n xs ++ drop (length (take n xs)) xs ≡ xs
front_back {X} n xs =
    let long : length (take n xs) ≡ min n (length xs) = length-take n xs in
    let same : take n xs ≡ take (length (take n xs)) xs = sym (take_min n xs) ∙ ap (λ (k : ℕ). take k xs) (sym long) in
    ap (λ (front : List X). front ++ drop (length (take n xs)) xs) same ∙ take-append-drop (length (take n xs)) xs

pub pages_join : (rows : List RegularPageEntry) (pages : List (List RegularPageEntry)) → ArePages rows pages → joined_pages pages ≡ rows
pages_join rows [] are = sym are
pages_join rows (page ∷ pages) are =
    let first : IsFirstPage rows page = are.0 in
    let later : joined_pages pages ≡ drop (length page) rows = pages_join (drop (length page) rows) pages are.1 in
    ap (λ (xs : List RegularPageEntry). page ++ xs) later
    ∙ ap (λ (front : List RegularPageEntry). front ++ drop (length front) rows) first.split
    ∙ front_back (page_length first.count) rows

all_take : {X : Type 0} (P : X → Type 0) (n : ℕ) (xs : List X) → AllByRecursion P xs → AllByRecursion P (take n xs)
all_take P zero xs all = tt
all_take P (suc n) [] all = tt
all_take P (suc n) (x ∷ xs) all = (all.0, all_take P n xs all.1)

all_drop : {X : Type 0} (P : X → Type 0) (n : ℕ) (xs : List X) → AllByRecursion P xs → AllByRecursion P (drop n xs)
all_drop P zero xs all = all
all_drop P (suc n) [] all = tt
all_drop P (suc n) (x ∷ xs) all = all_drop P n xs all.1

rises_take : (n : ℕ) (rows : List RegularPageEntry) → Rises rows → Rises (take n rows)
rises_take zero rows rise = tt
rises_take (suc n) [] rise = tt
rises_take (suc n) (row ∷ rows) rise = (all_take (λ other. row.function_offset ≤ other.function_offset) n rows rise.0, rises_take n rows rise.1)

rises_drop : (n : ℕ) (rows : List RegularPageEntry) → Rises rows → Rises (drop n rows)
rises_drop zero rows rise = rise
rises_drop (suc n) [] rise = tt
rises_drop (suc n) (row ∷ rows) rise = rises_drop n rows rise.1

pub compressible_by : (rows page : List RegularPageEntry) → (first : IsFirstPage rows page) → (many : Bool) → ltb 511 first.count ≡ many → 511 < length page → IsCompressible page
compressible_by rows page first true e long =
    subst IsCompressible (sym (first.split ∙ ap (λ (b : Bool). take (cond b first.count 511) rows) e)) first.most.holds
compressible_by rows page first false e long =
    let few : length page ≡ min 511 (length rows) = ap length (first.split ∙ ap (λ (b : Bool). take (cond b first.count 511) rows) e) ∙ length-take 511 rows in
    absurd (grind arith)

page_whole : (rows page : List RegularPageEntry) → AllByRecursion IsSmallRow rows → Rises rows → IsFirstPage rows page → IsWhole page
page_whole rows page small rise first = record {
  small = subst (AllByRecursion IsSmallRow) (sym first.split) (all_take IsSmallRow (page_length first.count) rows small);
  rises = subst Rises (sym first.split) (rises_take (page_length first.count) rows rise);
  fits = λ long. compressible_by rows page first (ltb 511 first.count) refl long;
}

pub pages_whole : (rows : List RegularPageEntry) (pages : List (List RegularPageEntry)) → AllByRecursion IsSmallRow rows → Rises rows → ArePages rows pages → AllByRecursion IsWhole pages
pages_whole rows [] small rise are = tt
pages_whole rows (page ∷ pages) small rise are =
    (page_whole rows page small rise are.0, pages_whole (drop (length page) rows) pages (all_drop IsSmallRow (length page) rows small) (rises_drop (length page) rows rise) are.1)
