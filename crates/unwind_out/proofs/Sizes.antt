-- How many bytes a section has.
use Rattle.std.proofs.Common.{◌≡◌, ℕ, ◌+◌, ◌*◌, ◌-◌, ◌^◌, ◌<◌, ◌≤◌, ◌==◌, ltb, Bool, true, false, List, [], ◌∷◌, ◌++◌, length, get_or, drop, refl, sym, ap, subst, ◌∙◌, arith, length-append, length-drop}
use Rattle.std.specs.List.{AllByRecursion, flat_map}
use Rattle.std.proofs.lemmas.List.{at_drop_more, at_drop_all}
use Rattle.std.proofs.lemmas.Bool.{ltb-true}
use Rattle.mo_bytes.specs.Number.{number_bytes}
use Rattle.mo_bytes.proofs.Numbers.{length-number_bytes}
use Rattle.image_format.specs.Unwind.{unwind_info_header_bytes, unwind_index_entry_bytes, unwind_lsda_entry_bytes}
use Rattle.image_format.specs.declared.unwind.UnwindLsdaEntry.{UnwindLsdaEntry}
use Rattle.image_format.specs.declared.unwind.RegularPageEntry.{RegularPageEntry}
use Rattle.unwind_out.specs.declared.row.UnwindRow.{UnwindRow}
use Rattle.unwind_out.specs.declared.cut.Page.{Page}
use Rattle.unwind_out.specs.Table.{AreApart, personalities, gap, rows_of, end_of, lsda_of, lsdas_of}
use Rattle.unwind_out.specs.Pages.{IsCompressible, page_bytes, index_of, info_header, last_entry, section_bytes, ArePages, IsFirstPage, IsSizeOf}
use Rattle.unwind_out.specs.Held.{held, page_sizes, section_size}
use Rattle.unwind_out.specs.Law.{AreFields}
use Rattle.unwind_out.proofs.Spelling.{length-flat, length-index_entry, length-lsda_entry, length-info_header, length-regular_page, length-compressed_page}
use Rattle.unwind_out.proofs.Cutting.{page_some, page_within}
use Rattle.unwind_out.proofs.Reading.{length-index}
use Rattle.unwind_out.proofs.Whole.{compressible_by}
use Rattle.unwind_out.proofs.One.{pages_one}

-- ---- the sum of pages

pub record IsAdding (pages : List Page) (at size : ℕ) : Type 0 where
  pub rest : size + page_sizes (held (drop at pages)) ≡ page_sizes (held pages)

pub adding_starts : (pages : List Page) → IsAdding pages 0 0
adding_starts pages = record { rest = omega arith }

added_more : (pages : List Page) (at : ℕ) (page : Page) → at < length pages → page ≡ get_or pages at page → page_sizes (held (drop at pages)) ≡ length (page_bytes page.rows.now) + page_sizes (held (drop (at + 1) pages))
unfolding page_sizes
added_more pages at page within is =
    at_drop_more (λ (ps : List Page). page_sizes (held ps)) pages at page within
    ∙ ap (λ (p : Page). page_sizes (held (p ∷ drop (at + 1) pages))) (sym is)

pub adding_goes_on : (pages : List Page) (at size more new : ℕ) (page : Page) → IsAdding pages at size → at < length pages → page ≡ get_or pages at page → more ≡ length (page_bytes page.rows.now) → new ≡ size + more → IsAdding pages (at + 1) new
adding_goes_on pages at size more new page adding within is more_is e =
    let next = added_more pages at page within is in
    let before = adding.rest in
    record { rest = omega arith }

-- the sum of some pages isn't above that of all
pub adding_within : (pages : List Page) (at size more : ℕ) (page : Page) → IsAdding pages at size → at < length pages → page ≡ get_or pages at page → more ≡ length (page_bytes page.rows.now) → page_sizes (held pages) < 2 ^ 63 → size + more < 2 ^ 63
adding_within pages at size more page adding within is more_is small =
    let next = added_more pages at page within is in
    let before = adding.rest in
    omega arith

none_added : (pages : List Page) → pages ≡ [] → page_sizes (held pages) ≡ 0
unfolding page_sizes
none_added pages e = rw e refl

pub adding_ends : (pages : List Page) (at size : ℕ) → IsAdding pages at size → length pages ≤ at → size ≡ page_sizes (held pages)
adding_ends pages at size adding past =
    let none = none_added (drop at pages) (at_drop_all (λ (ps : List Page). ps) pages at past) in
    let all = adding.rest in
    omega arith

pub ruleset adding = (adding_starts, adding_goes_on, adding_within, adding_ends)

-- ---- the section

length-pages : (pages : List (List RegularPageEntry)) → length (flat_map page_bytes pages) ≡ page_sizes pages
unfolding page_sizes
length-pages [] = refl
length-pages (page ∷ pages) = length-append (page_bytes page) (flat_map page_bytes pages) ∙ ap (λ (n : ℕ). length (page_bytes page) + n) (length-pages pages)

length-parts : (slots : List ℕ) (lsdas : List UnwindLsdaEntry) (end : ℕ) (pages : List (List RegularPageEntry)) (lsda_at page_at : ℕ)
    → length (((((unwind_info_header_bytes (info_header (length slots) (length pages)) ++ flat_map (number_bytes 4) slots) ++ flat_map unwind_index_entry_bytes (index_of lsda_at lsdas page_at pages)) ++ unwind_index_entry_bytes (last_entry end page_at)) ++ flat_map unwind_lsda_entry_bytes lsdas) ++ flat_map page_bytes pages)
    ≡ section_size (length slots) (length lsdas) pages
length-parts slots lsdas end pages lsda_at page_at =
    let a = unwind_info_header_bytes (info_header (length slots) (length pages)) in
    let b = flat_map (number_bytes 4) slots in
    let c = flat_map unwind_index_entry_bytes (index_of lsda_at lsdas page_at pages) in
    let d = unwind_index_entry_bytes (last_entry end page_at) in
    let e = flat_map unwind_lsda_entry_bytes lsdas in
    let f = flat_map page_bytes pages in
    let la : length a ≡ 28 = length-info_header (info_header (length slots) (length pages)) in
    let lb : length b ≡ 4 * length slots = length-flat (number_bytes 4) 4 (length-number_bytes 4) slots in
    let li : length (index_of lsda_at lsdas page_at pages) ≡ length pages = length-index lsda_at lsdas page_at pages in
    let lc : length c ≡ 12 * length (index_of lsda_at lsdas page_at pages) = length-flat unwind_index_entry_bytes 12 length-index_entry (index_of lsda_at lsdas page_at pages) in
    let ld : length d ≡ 12 = length-index_entry (last_entry end page_at) in
    let le : length e ≡ 8 * length lsdas = length-flat unwind_lsda_entry_bytes 8 length-lsda_entry lsdas in
    let lf : length f ≡ page_sizes pages = length-pages pages in
    let lab : length (a ++ b) ≡ length a + length b = length-append a b in
    let labc : length ((a ++ b) ++ c) ≡ length (a ++ b) + length c = length-append (a ++ b) c in
    let labcd : length (((a ++ b) ++ c) ++ d) ≡ length ((a ++ b) ++ c) + length d = length-append ((a ++ b) ++ c) d in
    let labcde : length ((((a ++ b) ++ c) ++ d) ++ e) ≡ length (((a ++ b) ++ c) ++ d) + length e = length-append (((a ++ b) ++ c) ++ d) e in
    let all : length (((((a ++ b) ++ c) ++ d) ++ e) ++ f) ≡ length ((((a ++ b) ++ c) ++ d) ++ e) + length f = length-append ((((a ++ b) ++ c) ++ d) ++ e) f in
    omega arith

pub length-section : (slots : List ℕ) (lsdas : List UnwindLsdaEntry) (end : ℕ) (pages : List (List RegularPageEntry)) → length (section_bytes slots lsdas end pages) ≡ section_size (length slots) (length lsdas) pages
unfolding section_bytes
length-section slots lsdas end pages =
    length-parts slots lsdas end pages (28 + 4 * length slots + 12 * (length pages + 1)) (28 + 4 * length slots + 12 * (length pages + 1) + 8 * length lsdas)

-- ---- functions that are apart have few rows

few_before : (row : UnwindRow) (rows : List UnwindRow) → AreApart (row ∷ rows) → AllByRecursion AreFields (row ∷ rows) → row.function + length (row ∷ rows) ≤ 2 ^ 32
few_before row [] apart fields = let here = fields.0.function in omega arith
few_before row (next ∷ rows) apart fields =
    let ends : row.function < row.end = apart.0 in
    let begins : row.end ≤ next.function = apart.1 in
    let later : next.function + length (next ∷ rows) ≤ 2 ^ 32 = few_before next rows apart.2 fields.1 in
    omega arith

few_functions : (rows : List UnwindRow) → AreApart rows → AllByRecursion AreFields rows → length rows ≤ 2 ^ 32
few_functions [] apart fields = omega arith
few_functions (row ∷ rows) apart fields = let few = few_before row rows apart fields in omega arith

gap_few_by : (end : ℕ) (next : UnwindRow) (rows : List UnwindRow) (there : Bool) → ltb end next.function ≡ there → length (gap end (next ∷ rows)) ≤ 1
gap_few_by end next rows true e = rw e (omega arith)
gap_few_by end next rows false e = rw e (omega arith)

gap_few : (end : ℕ) (rows : List UnwindRow) → length (gap end rows) ≤ 1
gap_few end [] = omega arith
gap_few end (next ∷ rows) = gap_few_by end next rows (ltb end next.function) refl

few_rows : (slots : List ℕ) (rows : List UnwindRow) → length (rows_of slots rows) ≤ 2 * length rows
unfolding rows_of
few_rows slots [] = omega arith
few_rows slots (row ∷ rows) =
    let closing = gap_few row.end rows in
    let later = few_rows slots rows in
    let both : length (gap row.end rows ++ rows_of slots rows) ≡ length (gap row.end rows) + length (rows_of slots rows) = length-append (gap row.end rows) (rows_of slots rows) in
    omega arith

lsda_few_by : (row : UnwindRow) (none : Bool) → (row.lsda == 0) ≡ none → length (lsda_of row) ≤ 1
lsda_few_by row true e = rw e (omega arith)
lsda_few_by row false e = rw e (omega arith)

few_lsdas : (rows : List UnwindRow) → length (lsdas_of rows) ≤ length rows
few_lsdas [] = omega arith
few_lsdas (row ∷ rows) =
    let here = lsda_few_by row (row.lsda == 0) refl in
    let later = few_lsdas rows in
    let both : length (lsda_of row ++ lsdas_of rows) ≡ length (lsda_of row) + length (lsdas_of rows) = length-append (lsda_of row) (lsdas_of rows) in
    omega arith

-- ---- pages have few bytes

page_small_by : (rows page : List RegularPageEntry) → IsFirstPage rows page → (many : Bool) → ltb 511 (length page) ≡ many → length (page_bytes page) ≤ 16 * length page
unfolding page_bytes
page_small_by rows page first true e =
    let many = ltb-true 511 (length page) e in
    let fits : IsCompressible page = compressible_by rows page first (ltb 511 first.count) refl many in
    let room = fits.room in
    let long = length-compressed_page page in
    rw e (omega arith)
page_small_by rows page first false e =
    let some = page_some rows page first in
    let long = length-regular_page page in
    rw e (omega arith)

page_small : (rows page : List RegularPageEntry) → IsFirstPage rows page → length (page_bytes page) ≤ 16 * length page
page_small rows page first = page_small_by rows page first (ltb 511 (length page)) refl

pages_small : (rows : List RegularPageEntry) (pages : List (List RegularPageEntry)) → ArePages rows pages → page_sizes pages + 12 * length pages ≤ 28 * length rows
unfolding page_sizes
pages_small rows [] are = omega arith
pages_small rows (page ∷ pages) are =
    let here : length (page_bytes page) ≤ 16 * length page = page_small rows page are.0 in
    let some = page_some rows page are.0 in
    let within = page_within rows page are.0 in
    let long : length (drop (length page) rows) ≡ length rows - length page = length-drop (length page) rows in
    let later : page_sizes pages + 12 * length pages ≤ 28 * length (drop (length page) rows) = pages_small (drop (length page) rows) pages are.1 in
    let all : page_sizes (page ∷ pages) ≡ length (page_bytes page) + page_sizes pages = refl in
    omega arith

pub size_small : (rows : List UnwindRow) (slots : List ℕ) (lsdas : List UnwindLsdaEntry) (table : List RegularPageEntry) (pages : List Page) → AreApart rows → AllByRecursion AreFields rows → length slots ≤ 3 → lsdas ≡ lsdas_of rows → table ≡ rows_of slots rows → ArePages table (held pages)
    → section_size (length slots) (length lsdas) (held pages) < 2 ^ 63
size_small rows slots lsdas table pages apart fields few lsdas_are table_is are =
    let count = few_functions rows apart fields in
    let places = few_rows slots rows in
    let data_few : length lsdas ≤ length rows = subst (λ (ls : List UnwindLsdaEntry). length ls ≤ length rows) (sym lsdas_are) (few_lsdas rows) in
    let long : length table ≡ length (rows_of slots rows) = ap length table_is in
    let bytes = pages_small table (held pages) are in
    omega arith

-- the size of the section
pub size_is : (rows : List UnwindRow) (slots : List ℕ) (lsdas : List UnwindLsdaEntry) (table : List RegularPageEntry) (pages : List Page) (size : ℕ) → slots ≡ personalities rows → lsdas ≡ lsdas_of rows → table ≡ rows_of slots rows → ArePages table (held pages)
    → size ≡ section_size (length slots) (length lsdas) (held pages) → IsSizeOf rows size
size_is rows slots lsdas table pages size slots_are lsdas_are table_is are e = λ bytes is.
    let cut : ArePages (rows_of (personalities rows) rows) (held pages) =
    subst (λ (s : List ℕ). ArePages (rows_of s rows) (held pages)) slots_are (subst (λ (t : List RegularPageEntry). ArePages t (held pages)) table_is are) in
    let same : is.pages ≡ held pages = pages_one (rows_of (personalities rows) rows) is.pages (held pages) is.cut cut in
    ap length is.spelled ∙ length-section (personalities rows) (lsdas_of rows) (end_of rows) is.pages
    ∙ ap (section_size (length (personalities rows)) (length (lsdas_of rows))) same
    ∙ ap (λ (s : List ℕ). section_size (length s) (length (lsdas_of rows)) (held pages)) (sym slots_are)
    ∙ ap (λ (ls : List UnwindLsdaEntry). section_size (length slots) (length ls) (held pages)) (sym lsdas_are)
    ∙ sym e
