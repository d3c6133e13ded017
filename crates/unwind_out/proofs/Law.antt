-- A look-up in a section that was written.
use Rattle.std.proofs.Common.{◌≡◌, ◌≢◌, ℕ, zero, suc, ◌^◌, ◌<◌, ◌≤◌, ◌==◌, ltb, cond, Bool, true, false, inl, inr, List, [], ◌∷◌, ◌++◌, length, get_or, take, Option, Some, None, unwrap_or, refl, sym, ap, subst, ◌∙◌, arith}
use Rattle.std.specs.List.{AllByRecursion, position_or_len}
use Rattle.std.specs.Option.{option_map}
use Rattle.std.proofs.lemmas.Nat.{and_le_r}
use Rattle.std.proofs.lemmas.Bool.{lt-ltb, ltb-true}
use Rattle.std.proofs.lemmas.Bool.Decides.{nat_tests}
use Rattle.list_lemmas.proofs.Members.{In, in_from_Contains, all_at, all_weaker}
use Rattle.image_format.specs.declared.unwind.UnwindLsdaEntry.{UnwindLsdaEntry}
use Rattle.image_format.specs.declared.unwind.RegularPageEntry.{RegularPageEntry}
use Rattle.unwind_out.specs.declared.row.UnwindRow.{UnwindRow}
use Rattle.unwind_out.specs.Lookup.{lsda_found, row_at, hit_of, unwind}
use Rattle.unwind_out.specs.Table.{BeginsAfter, AreApart, personalities, personality_number, lsda_bit, output_encoding, gap, rows_of, end_of, lsda_of, lsdas_of}
use Rattle.unwind_out.specs.Pages.{IsFirstPage, ArePages, page_length, first_function, section_bytes, IsSection}
use Rattle.unwind_out.specs.Law.{AreFields, Outside, IsQuiet, FindsEach, FindsNoOther}
use Rattle.unwind_out.specs.Held.{AreRising}
use Rattle.unwind_out.proofs.Reading.{Small, IsSmallRow, IsSmallLsda, Rises, IsWhole}
use Rattle.unwind_out.proofs.Whole.{parts_of, parts_read, pages_join, pages_whole}
use Rattle.unwind_out.proofs.Cutting.{page_some}
use Rattle.unwind_out.proofs.Answering.{all_append, After, rows_after, all_begin_after, end_one, end_more, range_at, quiet_at, IsQuietRow}

-- ---- the rows' numbers have 32 bits

number_by : (slots : List ℕ) (slot : ℕ) (there : Bool) → ltb (position_or_len (λ other. other == slot) slots) (length slots) ≡ there → personality_number slots slot ≤ length slots
unfolding personality_number
number_by slots slot true e = let low = ltb-true (position_or_len (λ other. other == slot) slots) (length slots) e in rw e (omega arith)
number_by slots slot false e = rw e (omega arith)

pub number_low : (slots : List ℕ) (slot : ℕ) → personality_number slots slot ≤ length slots
number_low slots slot = number_by slots slot (ltb (position_or_len (λ other. other == slot) slots) (length slots)) refl

bit_by : (lsda : ℕ) (none : Bool) → (lsda == 0) ≡ none → lsda_bit lsda ≤ 0x40000000
bit_by lsda true e = rw e (omega arith)
bit_by lsda false e = rw e (omega arith)

encoding_small : (slots : List ℕ) (row : UnwindRow) → length slots ≤ 3 → Small (output_encoding slots row)
unfolding output_encoding
encoding_small slots row few =
    let own = and_le_r row.encoding 0x8fffffff in
    let number = number_low slots row.personality in
    let bit = bit_by row.lsda (row.lsda == 0) refl in
    omega arith

gap_small_by : (end : ℕ) (next : UnwindRow) (rows : List UnwindRow) → Small end → (there : Bool) → ltb end next.function ≡ there → AllByRecursion IsSmallRow (gap end (next ∷ rows))
gap_small_by end next rows small true e = rw e ((small, (omega arith)), tt)
gap_small_by end next rows small false e = rw e tt

gap_small : (end : ℕ) (rows : List UnwindRow) → Small end → AllByRecursion IsSmallRow (gap end rows)
gap_small end [] small = tt
gap_small end (next ∷ rows) small = gap_small_by end next rows small (ltb end next.function) refl

rows_small : (slots : List ℕ) (rows : List UnwindRow) → length slots ≤ 3 → AllByRecursion AreFields rows → AllByRecursion IsSmallRow (rows_of slots rows)
unfolding rows_of
rows_small slots [] few fields = tt
rows_small slots (row ∷ rows) few fields =
    ((fields.0.function, encoding_small slots row few), all_append IsSmallRow (gap row.end rows) (rows_of slots rows) (gap_small row.end rows fields.0.end) (rows_small slots rows few fields.1))

lsda_small_by : (row : UnwindRow) → AreFields row → (none : Bool) → (row.lsda == 0) ≡ none → AllByRecursion IsSmallLsda (lsda_of row)
lsda_small_by row fields true e = rw e tt
lsda_small_by row fields false e = rw e ((fields.function, fields.lsda), tt)

lsdas_small : (rows : List UnwindRow) → AllByRecursion AreFields rows → AllByRecursion IsSmallLsda (lsdas_of rows)
lsdas_small [] fields = tt
lsdas_small (row ∷ rows) fields = all_append IsSmallLsda (lsda_of row) (lsdas_of rows) (lsda_small_by row fields.0 (row.lsda == 0) refl) (lsdas_small rows fields.1)

end_by : (row : UnwindRow) (rows : List UnwindRow) → AllByRecursion AreFields (row ∷ rows) → Small (end_of (row ∷ rows))
end_by row [] fields = subst Small (sym (end_one row)) fields.0.end
end_by row (next ∷ rows) fields = subst Small (sym (end_more row next rows)) (end_by next rows fields.1)

-- ---- the rows rise

gap_rises_by : (end : ℕ) (next : UnwindRow) (rows : List UnwindRow) (later : List RegularPageEntry) → AllByRecursion (After end) later → Rises later → (there : Bool) → ltb end next.function ≡ there → Rises (gap end (next ∷ rows) ++ later)
gap_rises_by end next rows later after rise true e = rw e (after, rise)
gap_rises_by end next rows later after rise false e = rw e rise

gap_rises : (end : ℕ) (rows : List UnwindRow) (later : List RegularPageEntry) → AllByRecursion (After end) later → Rises later → Rises (gap end rows ++ later)
gap_rises end [] later after rise = rise
gap_rises end (next ∷ rows) later after rise = gap_rises_by end next rows later after rise (ltb end next.function) refl

tail_after : (slots : List ℕ) (row : UnwindRow) (rows : List UnwindRow) → AllByRecursion (After row.function) (rows_of slots (row ∷ rows)) → AllByRecursion (After row.function) (gap row.end rows ++ rows_of slots rows)
unfolding rows_of
tail_after slots row rows all = all.1

rows_rise : (slots : List ℕ) (rows : List UnwindRow) → AreApart rows → Rises (rows_of slots rows)
unfolding rows_of
rows_rise slots [] apart = tt
rows_rise slots (row ∷ rows) apart = (
  tail_after slots row rows (rows_after slots (row ∷ rows) row.function apart (omega arith)),
  gap_rises row.end rows (rows_of slots rows) (rows_after slots rows row.end apart.2 apart.1) (rows_rise slots rows apart.2),
)

-- ---- language-specific data

abbrev LsdaAfter : ℕ → UnwindLsdaEntry → Type 0
LsdaAfter place row = place ≤ row.function_offset

lsda_after_by : (row : UnwindRow) (place : ℕ) → place ≤ row.function → (none : Bool) → (row.lsda == 0) ≡ none → AllByRecursion (LsdaAfter place) (lsda_of row)
lsda_after_by row place le true e = rw e tt
lsda_after_by row place le false e = rw e (le, tt)

pub lsdas_after : (rows : List UnwindRow) (place : ℕ) → AreApart rows → BeginsAfter place rows → AllByRecursion (LsdaAfter place) (lsdas_of rows)
lsdas_after [] place apart begins = tt
lsdas_after (row ∷ rows) place apart begins =
    let ends : row.function < row.end = apart.0 in
    let later : AllByRecursion (LsdaAfter row.end) (lsdas_of rows) = lsdas_after rows row.end apart.2 apart.1 in
    all_append (LsdaAfter place) (lsda_of row) (lsdas_of rows) (lsda_after_by row place begins (row.lsda == 0) refl)
    (all_weaker (LsdaAfter row.end) (LsdaAfter place) (λ other h. omega arith) (lsdas_of rows) later)

-- rows after a function have none of its data
none_found : (rows : List UnwindLsdaEntry) (place function : ℕ) → function < place → AllByRecursion (LsdaAfter place) rows → lsda_found rows function ≡ None
none_found [] place function low all = refl
none_found (row ∷ rows) place function low all =
    let after : place ≤ row.function_offset = all.0 in
    let other : (row.function_offset == function) ≡ false = grind (arith, nat_tests) in
    rw other (none_found rows place function low all.1)

own_found : (row : UnwindRow) (later : List UnwindLsdaEntry) → lsda_found later row.function ≡ None → (none : Bool) → (row.lsda == 0) ≡ none → unwrap_or (lsda_found (lsda_of row ++ later) row.function) 0 ≡ row.lsda
own_found row later none true e = let is : row.lsda ≡ 0 = grind (arith, nat_tests) in rw e (rw none (sym is))
own_found row later none false e = let same : (row.function == row.function) ≡ true = grind (arith, nat_tests) in rw e (rw same refl)

skipped : (row : UnwindRow) (later : List UnwindLsdaEntry) (function : ℕ) → row.function < function → (none : Bool) → (row.lsda == 0) ≡ none → lsda_found (lsda_of row ++ later) function ≡ lsda_found later function
skipped row later function low true e = rw e refl
skipped row later function low false e = let other : (row.function == function) ≡ false = grind (arith, nat_tests) in rw e (rw other refl)

-- the data of each function is found
pub lsda_is : (rows : List UnwindRow) (row : UnwindRow) → AreApart rows → In row rows → unwrap_or (lsda_found (lsdas_of rows) row.function) 0 ≡ row.lsda
lsda_is [] row apart there = absurd there
lsda_is (first ∷ rows) row apart (inl e) =
    let ends : first.function < first.end = apart.0 in
    let none : lsda_found (lsdas_of rows) first.function ≡ None = none_found (lsdas_of rows) first.end first.function ends (lsdas_after rows first.end apart.2 apart.1) in
    subst (λ (r : UnwindRow). unwrap_or (lsda_found (lsdas_of (first ∷ rows)) r.function) 0 ≡ r.lsda) e (own_found first (lsdas_of rows) none (first.lsda == 0) refl)
lsda_is (first ∷ rows) row apart (inr there) =
    let ends : first.function < first.end = apart.0 in
    let from : first.end ≤ row.function = all_begin_after rows first.end row apart.2 apart.1 there in
    ap (λ (o : Option ℕ). unwrap_or o 0) (skipped first (lsdas_of rows) row.function (omega arith) (first.lsda == 0) refl) ∙ lsda_is rows row apart.2 there

-- ---- the section

first_of_rows : (slots : List ℕ) (row : UnwindRow) (rows : List UnwindRow) → first_function (rows_of slots (row ∷ rows)) ≡ row.function
unfolding rows_of
first_of_rows slots row rows = refl

front_first : (rows : List RegularPageEntry) (n : ℕ) → 0 < length (take n rows) → first_function (take n rows) ≡ first_function rows
front_first rows zero some = absurd (omega arith)
front_first [] (suc n) some = refl
front_first (row ∷ rows) (suc n) some = refl

first_of_page : (rows page : List RegularPageEntry) → IsFirstPage rows page → 0 < length page → first_function page ≡ first_function rows
first_of_page rows page first some = ap first_function first.split ∙ front_first rows (page_length first.count) (let long : 0 < length (take (page_length first.count) rows) = subst (λ (xs : List RegularPageEntry). 0 < length xs) first.split some in long)

no_pages : (slots : List ℕ) (row : UnwindRow) (rows : List UnwindRow) → rows_of slots (row ∷ rows) ≡ [] → ⊥
unfolding rows_of
no_pages slots row rows e = cc

read_by : (section : List ℕ) (row : UnwindRow) (rows : List UnwindRow) (pages : List (List RegularPageEntry)) (offset : ℕ)
    → ArePages (rows_of (personalities (row ∷ rows)) (row ∷ rows)) pages
    → section ≡ section_bytes (personalities (row ∷ rows)) (lsdas_of (row ∷ rows)) (end_of (row ∷ rows)) pages
    → length section < 2 ^ 32 → length (personalities (row ∷ rows)) ≤ 3 → AllByRecursion AreFields (row ∷ rows) → AreApart (row ∷ rows)
    → unwind section offset ≡ cond (ltb offset (end_of (row ∷ rows))) (option_map (hit_of (lsdas_of (row ∷ rows))) (row_at offset (rows_of (personalities (row ∷ rows)) (row ∷ rows)))) None
read_by section row rows [] offset are is small few fields apart = absurd (no_pages (personalities (row ∷ rows)) row rows are)
read_by section row rows (page ∷ pages) offset are is small few fields apart =
    let slots = personalities (row ∷ rows) in
    let table = rows_of slots (row ∷ rows) in
    let whole : AllByRecursion IsWhole (page ∷ pages) = pages_whole table (page ∷ pages) (rows_small slots (row ∷ rows) few fields) (rows_rise slots (row ∷ rows) apart) are in
    let first : first_function page ≡ row.function = first_of_page table page are.0 (page_some table page are.0) ∙ first_of_rows slots row rows in
    let after : AllByRecursion (λ (l : UnwindLsdaEntry). first_function page ≤ l.function_offset) (lsdas_of (row ∷ rows)) =
    subst (λ (n : ℕ). AllByRecursion (λ (l : UnwindLsdaEntry). n ≤ l.function_offset) (lsdas_of (row ∷ rows))) (sym first) (lsdas_after (row ∷ rows) row.function apart (omega arith)) in
    parts_read section slots (lsdas_of (row ∷ rows)) (end_of (row ∷ rows)) page pages offset (parts_of section slots (lsdas_of (row ∷ rows)) (end_of (row ∷ rows)) (page ∷ pages) is) small few (end_by row rows fields) (lsdas_small (row ∷ rows) fields) whole after
    ∙ ap (λ (t : List RegularPageEntry). cond (ltb offset (end_of (row ∷ rows))) (option_map (hit_of (lsdas_of (row ∷ rows))) (row_at offset t)) None) (pages_join table (page ∷ pages) are)

-- what a look-up gives, by the rows of the section
pub section_reads : (rows : List UnwindRow) (section : List ℕ) (offset : ℕ) → rows ≢ [] → IsSection rows section → length section < 2 ^ 32 → length (personalities rows) ≤ 3 → AllByRecursion AreFields rows → AreApart rows
    → unwind section offset ≡ cond (ltb offset (end_of rows)) (option_map (hit_of (lsdas_of rows)) (row_at offset (rows_of (personalities rows) rows))) None
section_reads [] section offset some is small few fields apart = absurd (some refl)
section_reads (row ∷ rows) section offset some is small few fields apart = read_by section row rows is.pages offset is.cut is.spelled small few fields apart

ends_by : (first row : UnwindRow) (rows : List UnwindRow) → AreApart (first ∷ rows) → In row (first ∷ rows) → row.end ≤ end_of (first ∷ rows)
ends_by first row [] apart (inl e) =
    let same : row.end ≡ end_of (first ∷ []) = ap (λ (r : UnwindRow). r.end) (sym e) ∙ sym (end_one first) in
    omega arith
ends_by first row [] apart (inr there) = absurd there
ends_by first row (next ∷ rows) apart (inl e) =
    let begins : first.end ≤ next.function = apart.1 in
    let ends : next.function < next.end = apart.2.0 in
    let later : next.end ≤ end_of (next ∷ rows) = ends_by next next rows apart.2 (inl refl) in
    let same : end_of (first ∷ next ∷ rows) ≡ end_of (next ∷ rows) = end_more first next rows in
    let own : row.end ≡ first.end = ap (λ (r : UnwindRow). r.end) (sym e) in
    omega arith
ends_by first row (next ∷ rows) apart (inr there) =
    let later : row.end ≤ end_of (next ∷ rows) = ends_by next row rows apart.2 there in
    let same : end_of (first ∷ next ∷ rows) ≡ end_of (next ∷ rows) = end_more first next rows in
    omega arith

before_end : (rows : List UnwindRow) (row : UnwindRow) → AreApart rows → In row rows → row.end ≤ end_of rows
before_end [] row apart there = absurd there
before_end (first ∷ rows) row apart there = ends_by first row rows apart there

-- in a function's range it is found
pub found_in : (rows : List UnwindRow) (section : List ℕ) (row : UnwindRow) (offset : ℕ) → rows ≢ [] → IsSection rows section → length section < 2 ^ 32 → length (personalities rows) ≤ 3 → AllByRecursion AreFields rows → AreApart rows
    → In row rows → row.function ≤ offset → offset < row.end
    → unwind section offset ≡ Some (record { function = row.function; encoding = output_encoding (personalities rows) row; lsda = row.lsda })
found_in rows section row offset some is small few fields apart there low high =
    let slots = personalities rows in
    let ends = before_end rows row apart there in
    let within : ltb offset (end_of rows) ≡ true = lt-ltb offset (end_of rows) (omega arith) in
    section_reads rows section offset some is small few fields apart
    ∙ ap (λ (b : Bool). cond b (option_map (hit_of (lsdas_of rows)) (row_at offset (rows_of slots rows))) None) within
    ∙ ap (option_map (hit_of (lsdas_of rows))) (range_at slots rows row offset apart there low high)
    ∙ ap (λ (n : ℕ). Some (record { function = row.function; encoding = output_encoding slots row; lsda = n })) (lsda_is rows row apart there)

quiet_hit : (lsdas : List UnwindLsdaEntry) (row : Option RegularPageEntry) → IsQuietRow row → IsQuiet (option_map (hit_of lsdas) row)
quiet_hit lsdas None quiet = tt
quiet_hit lsdas (Some row) quiet = quiet

quiet_below : (rows : List UnwindRow) (offset : ℕ) (slots : List ℕ) → AreApart rows → AllByRecursion (Outside offset) rows → (within : Bool) → ltb offset (end_of rows) ≡ within → IsQuiet (cond within (option_map (hit_of (lsdas_of rows)) (row_at offset (rows_of slots rows))) None)
quiet_below rows offset slots apart outside true e = quiet_hit (lsdas_of rows) (row_at offset (rows_of slots rows)) (quiet_at slots rows offset apart outside (ltb-true offset (end_of rows) e))
quiet_below rows offset slots apart outside false e = tt

-- elsewhere nothing is known
pub quiet_in : (rows : List UnwindRow) (section : List ℕ) (offset : ℕ) → rows ≢ [] → IsSection rows section → length section < 2 ^ 32 → length (personalities rows) ≤ 3 → AllByRecursion AreFields rows → AreApart rows
    → AllByRecursion (Outside offset) rows → IsQuiet (unwind section offset)
quiet_in rows section offset some is small few fields apart outside =
    subst IsQuiet (sym (section_reads rows section offset some is small few fields apart)) (quiet_below rows offset (personalities rows) apart outside (ltb offset (end_of rows)) refl)

-- ---- the rows on language-specific data rise

abbrev LsdasRise : List UnwindLsdaEntry → Type 0
LsdasRise [] = Unit {0}
LsdasRise (row ∷ rows) = AllByRecursion (LsdaAfter row.function_offset) rows × LsdasRise rows

lsda_rises_by : (row : UnwindRow) (later : List UnwindLsdaEntry) → AllByRecursion (LsdaAfter row.function) later → LsdasRise later → (none : Bool) → (row.lsda == 0) ≡ none → LsdasRise (lsda_of row ++ later)
lsda_rises_by row later after rise true e = rw e rise
lsda_rises_by row later after rise false e = rw e (after, rise)

lsdas_rise_all : (rows : List UnwindRow) → AreApart rows → LsdasRise (lsdas_of rows)
lsdas_rise_all [] apart = tt
lsdas_rise_all (row ∷ rows) apart =
    let ends : row.function < row.end = apart.0 in
    let after : AllByRecursion (LsdaAfter row.function) (lsdas_of rows) = all_weaker (LsdaAfter row.end) (LsdaAfter row.function) (λ other h. omega arith) (lsdas_of rows) (lsdas_after rows row.end apart.2 apart.1) in
    lsda_rises_by row (lsdas_of rows) after (lsdas_rise_all rows apart.2) (row.lsda == 0) refl

rise_at : (rows : List UnwindLsdaEntry) → LsdasRise rows → (i j : ℕ) (d : UnwindLsdaEntry) → i ≤ j → j < length rows → (get_or rows i d).function_offset ≤ (get_or rows j d).function_offset
rise_at [] rise i j d le within = absurd (omega arith)
rise_at (row ∷ rows) rise zero zero d le within = omega arith
rise_at (row ∷ rows) rise zero (suc j) d le within = all_at (LsdaAfter row.function_offset) rows j d rise.0 (omega arith)
rise_at (row ∷ rows) rise (suc i) zero d le within = absurd (omega arith)
rise_at (row ∷ rows) rise (suc i) (suc j) d le within = rise_at rows rise.1 i j d (omega arith) (omega arith)

pub lsdas_rise : (rows : List UnwindRow) (lsdas : List UnwindLsdaEntry) → lsdas ≡ lsdas_of rows → AreApart rows → AreRising lsdas
lsdas_rise rows lsdas e apart = subst AreRising (sym e) (record { each = rise_at (lsdas_of rows) (lsdas_rise_all rows apart) })

pub found_each : (rows : List UnwindRow) (section : List ℕ) → rows ≢ [] → IsSection rows section → length (personalities rows) ≤ 3 → AllByRecursion AreFields rows → AreApart rows → length section < 2 ^ 32 → FindsEach rows section
found_each rows section some is few fields apart small = λ row offset there low high.
    found_in rows section row offset some is small few fields apart (in_from_Contains rows row there) low high

pub found_no_other : (rows : List UnwindRow) (section : List ℕ) → rows ≢ [] → IsSection rows section → length (personalities rows) ≤ 3 → AllByRecursion AreFields rows → AreApart rows → length section < 2 ^ 32 → FindsNoOther rows section
found_no_other rows section some is few fields apart small = λ offset outside. quiet_in rows section offset some is small few fields apart outside
