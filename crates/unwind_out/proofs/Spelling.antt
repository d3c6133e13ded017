-- The bytes of a section, part by part.
use Rattle.std.proofs.Common.{◌≡◌, ℕ, suc, ◌+◌, ◌*◌, ◌-◌, ◌^◌, ◌<◌, ◌≤◌, ◌==◌, ltb, leb, true, false, List, [], ◌∷◌, ◌++◌, length, get_or, drop, refl, sym, ap, subst, ◌∙◌, arith, append-nil, append_assoc, length-append}
use Rattle.std.specs.List.{AllByRecursion, flat_map, position_or_len}
use Rattle.std.specs.List.Sorted.{IsPartitionPoint}
use Rattle.std.proofs.lemmas.List.{at_drop_more, at_drop_all, length-map}
use Rattle.std.proofs.lemmas.List.Sums.{position_or_len_is}
use Rattle.std.proofs.lemmas.Bool.{lt-ltb, ltb-true, le-ltb, ltb-false, lt-leb, le-leb}
use Rattle.std.proofs.Math.Nat.{mul-suc}
use Rattle.list_lemmas.proofs.Members.{all_at}
use Rattle.mo_bytes.specs.Number.{number_bytes}
use Rattle.mo_bytes.proofs.Numbers.{length-number_bytes}
use Rattle.image_format.specs.Unwind.{unwind_info_header_bytes, unwind_index_entry_bytes, unwind_lsda_entry_bytes, regular_page_header_bytes, regular_page_entry_bytes, compressed_page_header_bytes, compressed_page_entry_bytes}
use Rattle.image_format.specs.declared.unwind.UnwindInfoHeader.{UnwindInfoHeader}
use Rattle.image_format.specs.declared.unwind.UnwindIndexEntry.{UnwindIndexEntry}
use Rattle.image_format.specs.declared.unwind.UnwindLsdaEntry.{UnwindLsdaEntry}
use Rattle.image_format.specs.declared.unwind.RegularPageHeader.{RegularPageHeader}
use Rattle.image_format.specs.declared.unwind.RegularPageEntry.{RegularPageEntry}
use Rattle.image_format.specs.declared.unwind.CompressedPageHeader.{CompressedPageHeader}
use Rattle.image_format.specs.declared.unwind.CompressedPageEntry.{CompressedPageEntry}
use Rattle.unwind_out.specs.declared.cut.Page.{Page}
use Rattle.unwind_out.specs.Pages.{encodings, first_function, IsNear, IsCompressible, compressed_entry, regular_page_header, compressed_page_header, regular_page, compressed_page, page_bytes, field, lsda_place, index_of, last_entry, info_header, section_bytes}
use Rattle.unwind_out.specs.Held.{AreFirst, AreNear, AreThere, entry_of, held, IsHeld}
use Rattle.unwind_out.proofs.Loops.{IsPutting, putting_starts, putting_goes_on, putting_ends}
use Rattle.unwind_out.proofs.Uses.{encodings_first, encodings_there}

pub appended : (old mid new a b : List ℕ) → mid ≡ old ++ a → new ≡ mid ++ b → new ≡ old ++ (a ++ b)
appended old mid new a b first second = second ∙ ap (λ (z : List ℕ). z ++ b) first ∙ append_assoc old a b

-- ---- how many bytes there are

pub length-flat : {X : Type 0} (f : X → List ℕ) (width : ℕ) (each : (x : X) → length (f x) ≡ width) (xs : List X) → length (flat_map f xs) ≡ width * length xs
length-flat f width each [] = omega arith
length-flat f width each (x ∷ xs) =
    let rest = length-flat f width each xs in
    let first = each x in
    let both : length (f x ++ flat_map f xs) ≡ length (f x) + length (flat_map f xs) = length-append (f x) (flat_map f xs) in
    let product : width * suc (length xs) ≡ width * length xs + width = mul-suc width (length xs) in
    omega arith

four : (n : ℕ) → length (number_bytes 4 n) ≡ 4
four n = length-number_bytes 4 n

two : (n : ℕ) → length (number_bytes 2 n) ≡ 2
two n = length-number_bytes 2 n

pub length-regular_entry : (row : RegularPageEntry) → length (regular_page_entry_bytes row) ≡ 8
length-regular_entry row = simp (length-append, append-nil, four) (omega (arith, four row.function_offset, four row.encoding))

pub length-compressed_entry : (row : CompressedPageEntry) → length (compressed_page_entry_bytes row) ≡ 4
length-compressed_entry row = simp (append-nil, four) refl

pub length-lsda_entry : (row : UnwindLsdaEntry) → length (unwind_lsda_entry_bytes row) ≡ 8
length-lsda_entry row = simp (length-append, append-nil, four) (omega arith)

pub length-index_entry : (entry : UnwindIndexEntry) → length (unwind_index_entry_bytes entry) ≡ 12
length-index_entry entry = simp (length-append, append-nil, four) (omega arith)

pub length-regular_header : (header : RegularPageHeader) → length (regular_page_header_bytes header) ≡ 8
length-regular_header header = simp (length-append, append-nil, four, two) (omega arith)

pub length-compressed_header : (header : CompressedPageHeader) → length (compressed_page_header_bytes header) ≡ 12
length-compressed_header header = simp (length-append, append-nil, four, two) (omega arith)

pub length-info_header : (header : UnwindInfoHeader) → length (unwind_info_header_bytes header) ≡ 28
length-info_header header = simp (length-append, append-nil, four) (omega arith)

pub length-regular_page : (rows : List RegularPageEntry) → length (regular_page rows) ≡ 8 + 8 * length rows
unfolding regular_page
length-regular_page rows =
    let header = length-regular_header (regular_page_header (length rows)) in
    let entries = length-flat regular_page_entry_bytes 8 length-regular_entry rows in
    let both = length-append (regular_page_header_bytes (regular_page_header (length rows))) (flat_map regular_page_entry_bytes rows) in
    omega arith

pub length-compressed_page : (rows : List RegularPageEntry) → length (compressed_page rows) ≡ 12 + 4 * (length rows + length (encodings rows))
unfolding compressed_page
length-compressed_page rows =
    let head = compressed_page_header_bytes (compressed_page_header (length rows) (length (encodings rows))) in
    let body = flat_map (λ (row : RegularPageEntry). compressed_page_entry_bytes (compressed_entry (first_function rows) (encodings rows) row)) rows in
    let header : length head ≡ 12 = length-compressed_header (compressed_page_header (length rows) (length (encodings rows))) in
    let entries : length body ≡ 4 * length rows = length-flat (λ (row : RegularPageEntry). compressed_page_entry_bytes (compressed_entry (first_function rows) (encodings rows) row)) 4 (λ row. length-compressed_entry (compressed_entry (first_function rows) (encodings rows) row)) rows in
    let numbers = length-flat (number_bytes 4) 4 four (encodings rows) in
    let inner : length (head ++ body) ≡ length head + length body = length-append head body in
    let outer : length ((head ++ body) ++ flat_map (number_bytes 4) (encodings rows)) ≡ length (head ++ body) + length (flat_map (number_bytes 4) (encodings rows)) = length-append (head ++ body) (flat_map (number_bytes 4) (encodings rows)) in
    omega arith

pub size_compressed : (page : Page) (size : ℕ) → IsHeld page → 511 < length page.rows.now → size ≡ 12 + 4 * (length page.rows.now + length page.encodings.items) → size ≡ length (page_bytes page.rows.now)
unfolding page_bytes
size_compressed page size is many e =
    let compressed = lt-ltb 511 (length page.rows.now) many in
    let long = length-compressed_page page.rows.now in
    let counted : length page.encodings.items ≡ length (encodings page.rows.now) = ap length (is many).1 in
    rw compressed (omega arith)

pub size_regular : (page : Page) (size : ℕ) → length page.rows.now ≤ 511 → size ≡ 8 + 8 * length page.rows.now → size ≡ length (page_bytes page.rows.now)
unfolding page_bytes
size_regular page size few e =
    let regular = le-ltb 511 (length page.rows.now) few in
    let long = length-regular_page page.rows.now in
    rw regular (omega arith)

-- a compressed page has few rows and encodings
pub few_rows : (page : Page) → IsHeld page → 511 < length page.rows.now → length page.rows.now + length page.encodings.items ≤ 1021
few_rows page is many = let room = (is many).0.room in let counted : length page.encodings.items ≡ length (encodings page.rows.now) = ap length (is many).1 in omega arith

pub bytes_compressed : (page : List RegularPageEntry) (new old : List ℕ) → 511 < length page → new ≡ old ++ compressed_page page → new ≡ old ++ page_bytes page
unfolding page_bytes
bytes_compressed page new old many e = let compressed = lt-ltb 511 (length page) many in rw compressed e

pub bytes_regular : (page : List RegularPageEntry) (new old : List ℕ) → length page ≤ 511 → new ≡ old ++ regular_page page → new ≡ old ++ page_bytes page
unfolding page_bytes
bytes_regular page new old few e = let regular = le-ltb 511 (length page) few in rw regular e

pub ruleset paging = (size_compressed, size_regular, few_rows, bytes_compressed, bytes_regular, appended)

pub near_at : (first : ℕ) (rows : List RegularPageEntry) (at : ℕ) (row : RegularPageEntry) → AreNear first rows → at < length rows → row ≡ get_or rows at row → row.function_offset - first < 2 ^ 24
near_at first rows at row near within is =
    let here : IsNear first row = subst (IsNear first) (sym is) (all_at (IsNear first) rows at row near.each within) in
    omega arith

pub there_at : (numbers : List ℕ) (rows : List RegularPageEntry) (at : ℕ) (row : RegularPageEntry) → AreThere numbers rows → at < length rows → row ≡ get_or rows at row → position_or_len (λ other. other == row.encoding) numbers < length numbers
there_at numbers rows at row there within is =
    subst (λ (r : RegularPageEntry). position_or_len (λ other. other == r.encoding) numbers < length numbers) (sym is)
    (all_at (λ (r : RegularPageEntry). position_or_len (λ other. other == r.encoding) numbers < length numbers) rows at row there.each within)

-- the rows are near and their encodings are there
pub are_near : (rows : List RegularPageEntry) (first : ℕ) → IsCompressible rows → first ≡ first_function rows → AreNear first rows
are_near rows first fits e = record { each = subst (λ (n : ℕ). AllByRecursion (IsNear n) rows) (sym e) fits.near }

pub are_there : (rows : List RegularPageEntry) (numbers : List ℕ) → numbers ≡ encodings rows → AreThere numbers rows
are_there rows numbers e = record { each = subst (λ (ns : List ℕ). AllByRecursion (λ (r : RegularPageEntry). position_or_len (λ other. other == r.encoding) ns < length ns) rows) (sym e) (encodings_there rows) }

pub are_first : (rows : List RegularPageEntry) (numbers : List ℕ) → numbers ≡ encodings rows → AreFirst numbers
are_first rows numbers e = subst AreFirst (sym e) (encodings_first rows)

pub few_numbers : (rows : List RegularPageEntry) (numbers : List ℕ) → IsCompressible rows → numbers ≡ encodings rows → length numbers ≤ 256
few_numbers rows numbers fits e = let indexed = fits.indexed in let same : length numbers ≡ length (encodings rows) = ap length e in omega arith

pub page_is : (rows : List RegularPageEntry) (first : ℕ) (numbers : List ℕ) (old one two new : List ℕ) (header : CompressedPageHeader) → numbers ≡ encodings rows → first ≡ first_function rows
    → header ≡ compressed_page_header (length rows) (length numbers) → one ≡ old ++ compressed_page_header_bytes header
    → two ≡ one ++ flat_map (λ row. compressed_page_entry_bytes (compressed_entry first numbers row)) rows → new ≡ two ++ flat_map (number_bytes 4) numbers → new ≡ old ++ compressed_page rows
unfolding compressed_page
page_is rows first numbers old one two new header numbers_are first_is header_is h1 h2 h3 =
    let head = ap compressed_page_header_bytes (header_is ∙ ap (λ (ns : List ℕ). compressed_page_header (length rows) (length ns)) numbers_are) in
    let entries = ap (λ (n : ℕ). flat_map (λ (row : RegularPageEntry). compressed_page_entry_bytes (compressed_entry n numbers row)) rows) first_is ∙ ap (λ (ns : List ℕ). flat_map (λ (row : RegularPageEntry). compressed_page_entry_bytes (compressed_entry (first_function rows) ns row)) rows) numbers_are in
    let first_part : one ≡ old ++ compressed_page_header_bytes (compressed_page_header (length rows) (length (encodings rows))) = h1 ∙ ap (λ (z : List ℕ). old ++ z) head in
    let second_part : two ≡ one ++ flat_map (λ (row : RegularPageEntry). compressed_page_entry_bytes (compressed_entry (first_function rows) (encodings rows) row)) rows = h2 ∙ ap (λ (z : List ℕ). one ++ z) entries in
    let third_part : new ≡ two ++ flat_map (number_bytes 4) (encodings rows) = h3 ∙ ap (λ (ns : List ℕ). two ++ flat_map (number_bytes 4) ns) numbers_are in
    appended old two new (compressed_page_header_bytes (compressed_page_header (length rows) (length (encodings rows))) ++ flat_map (λ (row : RegularPageEntry). compressed_page_entry_bytes (compressed_entry (first_function rows) (encodings rows) row)) rows) (flat_map (number_bytes 4) (encodings rows))
    (appended old one two (compressed_page_header_bytes (compressed_page_header (length rows) (length (encodings rows)))) (flat_map (λ (row : RegularPageEntry). compressed_page_entry_bytes (compressed_entry (first_function rows) (encodings rows) row)) rows) first_part second_part) third_part

pub compressed_put : (rows : List RegularPageEntry) (first : ℕ) (numbers old : List ℕ) (at : ℕ) (now new : List ℕ) (row : RegularPageEntry) (offset index : ℕ)
    → IsPutting (λ (r : RegularPageEntry). compressed_page_entry_bytes (compressed_entry first numbers r)) rows old at now → at < length rows → row ≡ get_or rows at row
    → offset ≡ row.function_offset - first → index ≡ position_or_len (λ other. other == row.encoding) numbers
    → new ≡ now ++ compressed_page_entry_bytes (record { function_offset = offset; encoding_index = index })
    → IsPutting (λ (r : RegularPageEntry). compressed_page_entry_bytes (compressed_entry first numbers r)) rows old (at + 1) new
compressed_put rows first numbers old at now new row offset index putting within is offset_is index_is e =
    putting_goes_on (λ (r : RegularPageEntry). compressed_page_entry_bytes (compressed_entry first numbers r)) rows old at now new row putting within is
    (e ∙ ap (λ (n : ℕ). now ++ compressed_page_entry_bytes (record { function_offset = n; encoding_index = index })) offset_is
    ∙ ap (λ (n : ℕ). now ++ compressed_page_entry_bytes (record { function_offset = row.function_offset - first; encoding_index = n })) index_is)

pub ruleset compressing = (putting_starts, compressed_put, putting_ends, near_at, there_at)

pub ruleset compressed = (are_near, are_there, are_first, few_numbers, page_is)

-- ---- fields

pub field_sum : (a b : ℕ) → field (a + field b) ≡ field (a + b)
field_sum a b = omega arith

pub field_of_field : (a b : ℕ) → field (field a + b) ≡ field (a + b)
field_of_field a b = omega arith

field_again : (n : ℕ) → field (field n) ≡ field n
field_again n = omega arith

pub field_small : (n : ℕ) → field n < 2 ^ 32
field_small n = omega arith

pub point_place : (lsdas : List UnwindLsdaEntry) (function point : ℕ) → point ≤ length lsdas → IsPartitionPoint (λ (row : UnwindLsdaEntry). ltb row.function_offset function ≡ true) (λ row. ltb row.function_offset function ≡ false) lsdas point → point ≡ position_or_len (λ row. leb function row.function_offset) lsdas
point_place lsdas function point within splits =
    let none : UnwindLsdaEntry = record { function_offset = 0; lsda_offset = 0 } in
    sym (position_or_len_is (λ (row : UnwindLsdaEntry). leb function row.function_offset) lsdas point none within
    (λ k low. lt-leb function (get_or lsdas k none).function_offset (ltb-true (get_or lsdas k none).function_offset function (splits.0 k none (omega arith) low)))
    (λ low. le-leb function (get_or lsdas point none).function_offset (ltb-false (get_or lsdas point none).function_offset function (splits.1 point none (omega arith) low))))

-- ---- the index

-- places modulo 2^32 give the same fields
pub index_fields : (lsda_at : ℕ) (lsdas : List UnwindLsdaEntry) (page_at other : ℕ) (pages : List (List RegularPageEntry)) → field page_at ≡ field other → index_of lsda_at lsdas page_at pages ≡ index_of lsda_at lsdas other pages
unfolding index_of
index_fields lsda_at lsdas page_at other [] e = refl
index_fields lsda_at lsdas page_at other (page ∷ pages) e =
    let next : field (page_at + length (page_bytes page)) ≡ field (other + length (page_bytes page)) = sym (field_of_field page_at (length (page_bytes page))) ∙ ap (λ (n : ℕ). field (n + length (page_bytes page))) e ∙ field_of_field other (length (page_bytes page)) in
    ap (λ (n : ℕ). record { function_offset = first_function page; page_offset = n; lsda_offset = field (lsda_place lsda_at lsdas (first_function page)) } ∷ index_of lsda_at lsdas (page_at + length (page_bytes page)) pages) e
    ∙ ap (λ (es : List UnwindIndexEntry). record { function_offset = first_function page; page_offset = field other; lsda_offset = field (lsda_place lsda_at lsdas (first_function page)) } ∷ es) (index_fields lsda_at lsdas (page_at + length (page_bytes page)) (other + length (page_bytes page)) pages next)

pub record IsIndexing (lsda_at : ℕ) (lsdas : List UnwindLsdaEntry) (page_at : ℕ) (pages : List Page) (old : List ℕ) (at place : ℕ) (now : List ℕ) : Type 0 where
  pub rest : now ++ flat_map unwind_index_entry_bytes (index_of lsda_at lsdas place (held (drop at pages))) ≡ old ++ flat_map unwind_index_entry_bytes (index_of lsda_at lsdas page_at (held pages))
  pub small : place < 2 ^ 32

pub indexing_starts : (lsda_at : ℕ) (lsdas : List UnwindLsdaEntry) (page_at : ℕ) (pages : List Page) (old : List ℕ) → page_at < 2 ^ 32 → IsIndexing lsda_at lsdas page_at pages old 0 page_at old
indexing_starts lsda_at lsdas page_at pages old small = record { rest = refl; small = small }

indexed_more : (lsda_at : ℕ) (lsdas : List UnwindLsdaEntry) (place : ℕ) (pages : List Page) (at : ℕ) (page : Page) → place < 2 ^ 32 → at < length pages → page ≡ get_or pages at page
    → flat_map unwind_index_entry_bytes (index_of lsda_at lsdas place (held (drop at pages)))
    ≡ unwind_index_entry_bytes (record { function_offset = first_function page.rows.now; page_offset = place; lsda_offset = field (lsda_place lsda_at lsdas (first_function page.rows.now)) })
    ++ flat_map unwind_index_entry_bytes (index_of lsda_at lsdas (place + length (page_bytes page.rows.now)) (held (drop (at + 1) pages)))
unfolding index_of
indexed_more lsda_at lsdas place pages at page small within is =
    let whole : field place ≡ place = omega arith in
    at_drop_more (λ (ps : List Page). flat_map unwind_index_entry_bytes (index_of lsda_at lsdas place (held ps))) pages at page within
    ∙ ap (λ (p : Page). flat_map unwind_index_entry_bytes (index_of lsda_at lsdas place (held (p ∷ drop (at + 1) pages)))) (sym is)
    ∙ ap (λ (n : ℕ). unwind_index_entry_bytes (record { function_offset = first_function page.rows.now; page_offset = n; lsda_offset = field (lsda_place lsda_at lsdas (first_function page.rows.now)) }) ++ flat_map unwind_index_entry_bytes (index_of lsda_at lsdas (place + length (page_bytes page.rows.now)) (held (drop (at + 1) pages)))) whole

pub indexing_goes_on : (lsda_at : ℕ) (lsdas : List UnwindLsdaEntry) (page_at : ℕ) (pages : List Page) (old : List ℕ) (at place next : ℕ) (now new : List ℕ) (page : Page)
    → IsIndexing lsda_at lsdas page_at pages old at place now → at < length pages → page ≡ get_or pages at page
    → next ≡ field (place + length (page_bytes page.rows.now)) → new ≡ now ++ unwind_index_entry_bytes (entry_of lsda_at lsdas place page.rows.now)
    → IsIndexing lsda_at lsdas page_at pages old (at + 1) next new
indexing_goes_on lsda_at lsdas page_at pages old at place next now new page indexing within is next_is e = record {
  small = let below = field_small (place + length (page_bytes page.rows.now)) in omega arith;
  rest =
      let whole : field next ≡ field (place + length (page_bytes page.rows.now)) = ap field next_is ∙ field_again (place + length (page_bytes page.rows.now)) in
      let moved : index_of lsda_at lsdas next (held (drop (at + 1) pages)) ≡ index_of lsda_at lsdas (place + length (page_bytes page.rows.now)) (held (drop (at + 1) pages)) =
      index_fields lsda_at lsdas next (place + length (page_bytes page.rows.now)) (held (drop (at + 1) pages)) whole in
      let own = unwind_index_entry_bytes (entry_of lsda_at lsdas place page.rows.now) in
      ap (λ (z : List ℕ). z ++ flat_map unwind_index_entry_bytes (index_of lsda_at lsdas next (held (drop (at + 1) pages)))) e
      ∙ append_assoc now own (flat_map unwind_index_entry_bytes (index_of lsda_at lsdas next (held (drop (at + 1) pages))))
      ∙ ap (λ (es : List UnwindIndexEntry). now ++ (own ++ flat_map unwind_index_entry_bytes es)) moved
      ∙ ap (λ (z : List ℕ). now ++ z) (sym (indexed_more lsda_at lsdas place pages at page indexing.small within is))
      ∙ indexing.rest;
}

pub entry_put : (lsda_at : ℕ) (lsdas : List UnwindLsdaEntry) (at : ℕ) (rows : List RegularPageEntry) (first lsda : ℕ) (now new : List ℕ) → first ≡ first_function rows → lsda ≡ field (lsda_place lsda_at lsdas first)
    → new ≡ now ++ unwind_index_entry_bytes (record { function_offset = first; page_offset = at; lsda_offset = lsda }) → new ≡ now ++ unwind_index_entry_bytes (entry_of lsda_at lsdas at rows)
entry_put lsda_at lsdas at rows first lsda now new first_is lsda_is e =
    e ∙ ap (λ (n : ℕ). now ++ unwind_index_entry_bytes (record { function_offset = first; page_offset = at; lsda_offset = n })) lsda_is
    ∙ ap (λ (n : ℕ). now ++ unwind_index_entry_bytes (record { function_offset = n; page_offset = at; lsda_offset = field (lsda_place lsda_at lsdas n) })) first_is

pub next_put : (at wide size next : ℕ) (page : List RegularPageEntry) → size ≡ length (page_bytes page) → wide ≡ at → next ≡ field (wide + size) → next ≡ field (at + length (page_bytes page))
next_put at wide size next page size_is wide_is e = e ∙ ap (λ (n : ℕ). field (n + size)) wide_is ∙ ap (λ (n : ℕ). field (at + n)) size_is

pub ruleset entries = (entry_put, next_put)

no_index : (lsda_at : ℕ) (lsdas : List UnwindLsdaEntry) (place : ℕ) (pages : List Page) → pages ≡ [] → flat_map unwind_index_entry_bytes (index_of lsda_at lsdas place (held pages)) ≡ []
unfolding index_of
no_index lsda_at lsdas place pages e = rw e refl

pub indexing_ends : (lsda_at : ℕ) (lsdas : List UnwindLsdaEntry) (page_at : ℕ) (pages : List Page) (old : List ℕ) (at place : ℕ) (now : List ℕ) → IsIndexing lsda_at lsdas page_at pages old at place now → length pages ≤ at → now ≡ old ++ flat_map unwind_index_entry_bytes (index_of lsda_at lsdas page_at (held pages))
indexing_ends lsda_at lsdas page_at pages old at place now indexing past =
    sym (append-nil now)
    ∙ ap (λ (z : List ℕ). now ++ z) (sym (no_index lsda_at lsdas place (drop at pages) (at_drop_all (λ (ps : List Page). ps) pages at past)))
    ∙ indexing.rest

pub ruleset indexing = (indexing_starts, indexing_goes_on, indexing_ends)

-- ---- the whole section

index_lsda : (lsda_at : ℕ) (lsdas : List UnwindLsdaEntry) (page_at : ℕ) (pages : List (List RegularPageEntry)) → index_of (field lsda_at) lsdas page_at pages ≡ index_of lsda_at lsdas page_at pages
unfolding index_of
index_lsda lsda_at lsdas page_at [] = refl
index_lsda lsda_at lsdas page_at (page ∷ pages) =
    let count = position_or_len (λ (row : UnwindLsdaEntry). leb (first_function page) row.function_offset) lsdas in
    let place : field (field lsda_at + 8 * count) ≡ field (lsda_at + 8 * count) = field_of_field lsda_at (8 * count) in
    ap (λ (n : ℕ). record { function_offset = first_function page; page_offset = field page_at; lsda_offset = n } ∷ index_of (field lsda_at) lsdas (page_at + length (page_bytes page)) pages) place
    ∙ ap (λ (es : List UnwindIndexEntry). record { function_offset = first_function page; page_offset = field page_at; lsda_offset = field (lsda_at + 8 * count) } ∷ es) (index_lsda lsda_at lsdas (page_at + length (page_bytes page)) pages)

pages_held : (pages : List Page) → flat_map (λ (page : Page). page_bytes page.rows.now) pages ≡ flat_map page_bytes (held pages)
pages_held [] = refl
pages_held (page ∷ pages) = ap (λ (z : List ℕ). page_bytes page.rows.now ++ z) (pages_held pages)

pub joined : (a b c d e f now1 now2 now3 now4 now5 now6 : List ℕ) → now1 ≡ a → now2 ≡ now1 ++ b → now3 ≡ now2 ++ c → now4 ≡ now3 ++ d → now5 ≡ now4 ++ e → now6 ≡ now5 ++ f → now6 ≡ ((((a ++ b) ++ c) ++ d) ++ e) ++ f
joined a b c d e f now1 now2 now3 now4 now5 now6 h1 h2 h3 h4 h5 h6 =
    h6 ∙ ap (λ (z : List ℕ). z ++ f) (h5 ∙ ap (λ (z : List ℕ). z ++ e) (h4 ∙ ap (λ (z : List ℕ). z ++ d) (h3 ∙ ap (λ (z : List ℕ). z ++ c) (h2 ∙ ap (λ (z : List ℕ). z ++ b) h1))))

pub section_is : (slots : List ℕ) (lsdas : List UnwindLsdaEntry) (end : ℕ) (pages : List Page) (header : UnwindInfoHeader) (lsda_at page_at : ℕ) (last : UnwindIndexEntry) (none now1 now2 now3 now4 now5 now6 : List ℕ)
    → lsda_at ≡ field (28 + 4 * length slots + 12 * (length pages + 1)) → page_at ≡ field (28 + 4 * length slots + 12 * (length pages + 1) + 8 * length lsdas)
    → none ≡ [] → header ≡ info_header (length slots) (length pages) → now1 ≡ none ++ unwind_info_header_bytes header → now2 ≡ now1 ++ flat_map (number_bytes 4) slots
    → now3 ≡ now2 ++ flat_map unwind_index_entry_bytes (index_of lsda_at lsdas page_at (held pages)) → last ≡ record { function_offset = end; page_offset = 0; lsda_offset = page_at } → now4 ≡ now3 ++ unwind_index_entry_bytes last
    → now5 ≡ now4 ++ flat_map unwind_lsda_entry_bytes lsdas → now6 ≡ now5 ++ flat_map (λ (page : Page). page_bytes page.rows.now) pages
    → now6 ≡ section_bytes slots lsdas end (held pages)
unfolding section_bytes
section_is slots lsdas end pages header lsda_at page_at last none now1 now2 now3 now4 now5 now6 lsda_is page_is none_is header_is h1 h2 h3 last_is h4 h5 h6 =
    let count : length (held pages) ≡ length pages = length-map pages (λ (p : Page). p.rows.now) in
    let real = 28 + 4 * length slots + 12 * (length pages + 1) in
    let real_page = real + 8 * length lsdas in
    let index : index_of lsda_at lsdas page_at (held pages) ≡ index_of real lsdas real_page (held pages) =
    ap (λ (n : ℕ). index_of n lsdas page_at (held pages)) lsda_is ∙ index_lsda real lsdas page_at (held pages)
    ∙ index_fields real lsdas page_at real_page (held pages) (ap field page_is ∙ field_again real_page) in
    let first : now1 ≡ unwind_info_header_bytes (info_header (length slots) (length pages)) = h1 ∙ ap (λ (z : List ℕ). z ++ unwind_info_header_bytes header) none_is ∙ ap unwind_info_header_bytes header_is in
    let third : now3 ≡ now2 ++ flat_map unwind_index_entry_bytes (index_of real lsdas real_page (held pages)) = h3 ∙ ap (λ (es : List UnwindIndexEntry). now2 ++ flat_map unwind_index_entry_bytes es) index in
    let fourth : now4 ≡ now3 ++ unwind_index_entry_bytes (last_entry end real_page) = h4 ∙ ap (λ (e : UnwindIndexEntry). now3 ++ unwind_index_entry_bytes e) last_is ∙ ap (λ (n : ℕ). now3 ++ unwind_index_entry_bytes (record { function_offset = end; page_offset = 0; lsda_offset = n })) page_is in
    let sixth : now6 ≡ now5 ++ flat_map page_bytes (held pages) = h6 ∙ ap (λ (z : List ℕ). now5 ++ z) (pages_held pages) in
    let whole = joined (unwind_info_header_bytes (info_header (length slots) (length pages))) (flat_map (number_bytes 4) slots) (flat_map unwind_index_entry_bytes (index_of real lsdas real_page (held pages)))
    (unwind_index_entry_bytes (last_entry end real_page)) (flat_map unwind_lsda_entry_bytes lsdas) (flat_map page_bytes (held pages)) now1 now2 now3 now4 now5 now6 first h2 third fourth h5 sixth in
    whole
    ∙ ap (λ (n : ℕ). ((((unwind_info_header_bytes (info_header (length slots) n) ++ flat_map (number_bytes 4) slots) ++ flat_map unwind_index_entry_bytes (index_of (28 + 4 * length slots + 12 * (n + 1)) lsdas (28 + 4 * length slots + 12 * (n + 1) + 8 * length lsdas) (held pages))) ++ unwind_index_entry_bytes (last_entry end (28 + 4 * length slots + 12 * (n + 1) + 8 * length lsdas))) ++ flat_map unwind_lsda_entry_bytes lsdas) ++ flat_map page_bytes (held pages)) (sym count)
