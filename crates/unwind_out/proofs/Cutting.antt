-- Pages are cut from the front of the rows.
use Rattle.std.proofs.Common.{◌≡◌, ℕ, zero, suc, ◌+◌, ◌-◌, ◌^◌, ◌<◌, ◌≤◌, ltb, leb, cond, Bool, true, false, ◌⊎◌, inl, inr, List, [], ◌∷◌, ◌++◌, length, get_or, take, drop, min, refl, sym, ap, subst, ◌∙◌, arith, append-nil, append_assoc}
use Rattle.std.specs.List.{AllByRecursion}
use Rattle.std.proofs.lemmas.List.{take_all, take_more, take_min, get_or-take, length-drop, take_rest, length-take, length-take-le, map-append, take-append-drop, take-take}
use Rattle.std.proofs.lemmas.Bool.{leb-true, leb-false, lt-ltb, ltb-true, le-ltb}
use Rattle.list_lemmas.proofs.Members.{all_at}
use Rattle.image_format.specs.declared.unwind.RegularPageEntry.{RegularPageEntry}
use Rattle.unwind_out.specs.declared.cut.Page.{Page}
use Rattle.unwind_out.specs.Pages.{with_new, encodings, first_function, IsNear, IsCompressible, IsMost, page_length, IsFirstPage, ArePages}
use Rattle.unwind_out.specs.Held.{AreKnown, held, IsHeld}
use Rattle.unwind_out.proofs.Loops.{all_push}
use Rattle.unwind_out.proofs.Uses.{encodings_more, encodings_none, encodings_longer, new_front}

-- the rows that were met can be in one compressed page
pub record IsMeeting (rows : List RegularPageEntry) (at : ℕ) (numbers guesses : List ℕ) : Type 0 where
  pub are : numbers ≡ encodings (take at rows)
  pub known : AreKnown numbers guesses
  pub near : AllByRecursion (IsNear (first_function rows)) (take at rows)
  pub indexed : length numbers ≤ 256
  pub room : at + length numbers ≤ 1021

pub meeting_starts : (rows : List RegularPageEntry) (numbers guesses : List ℕ) → numbers ≡ [] → AreKnown numbers guesses → IsMeeting rows 0 numbers guesses
meeting_starts rows numbers guesses e known = record {
  are = e ∙ sym encodings_none;
  known = known;
  near = tt;
  indexed = let none = ap length e in omega arith;
  room = let none = ap length e in omega arith;
}

pub meeting_goes_on : (rows : List RegularPageEntry) (at : ℕ) (numbers guesses new new_guesses : List ℕ) (row : RegularPageEntry) → IsMeeting rows at numbers guesses → at < length rows → row ≡ get_or rows at row → new ≡ encodings (take (at + 1) rows) → AreKnown new new_guesses → row.function_offset < first_function rows + 2 ^ 24 → length new ≤ 256 → at + 1 + length new ≤ 1021 → IsMeeting rows (at + 1) new new_guesses
meeting_goes_on rows at numbers guesses new new_guesses row meeting within is are known near indexed room = record {
  are = are;
  known = known;
  near =
      let front : take (at + 1) rows ≡ take at rows ++ row ∷ [] = take_more rows at row within ∙ ap (λ (r : RegularPageEntry). take at rows ++ r ∷ []) (sym is) in
      subst (AllByRecursion (IsNear (first_function rows))) (sym front) (all_push (IsNear (first_function rows)) (take at rows) row meeting.near near);
  indexed = indexed;
  room = room;
}

near_front : (rows : List RegularPageEntry) (at : ℕ) → AllByRecursion (IsNear (first_function rows)) (take at rows) → AllByRecursion (IsNear (first_function (take at rows))) (take at rows)
near_front rows zero all = tt
near_front [] (suc at) all = tt
near_front (row ∷ rows) (suc at) all = all

compressible : (rows : List RegularPageEntry) (at : ℕ) (numbers guesses : List ℕ) → IsMeeting rows at numbers guesses → at ≤ length rows → IsCompressible (take at rows)
compressible rows at numbers guesses meeting within =
    let same : length numbers ≡ length (encodings (take at rows)) = ap length meeting.are in
    let long : length (take at rows) ≡ at = length-take-le at rows within in
    let indexed = meeting.indexed in
    let room = meeting.room in
    record { near = near_front rows at meeting.near; indexed = omega arith; room = omega arith }

first_front : (rows : List RegularPageEntry) (count : ℕ) → 0 < count → first_function (take count rows) ≡ first_function rows
first_front rows zero some = absurd (omega arith)
first_front [] (suc count) some = refl
first_front (row ∷ rows) (suc count) some = refl

-- what a longer front would have to hold
longer_front : (rows : List RegularPageEntry) (at other : ℕ) → at < other → other ≤ length rows → length (encodings (take (at + 1) rows)) ≤ length (encodings (take other rows))
longer_front rows at other more within =
    let front : take (at + 1) (take other rows) ≡ take (at + 1) rows = take-take (at + 1) other rows (omega arith) in
    let split : take other rows ≡ take (at + 1) rows ++ drop (at + 1) (take other rows) = sym (take-append-drop (at + 1) (take other rows)) ∙ ap (λ (xs : List RegularPageEntry). xs ++ drop (at + 1) (take other rows)) front in
    subst (λ (xs : List RegularPageEntry). length (encodings (take (at + 1) rows)) ≤ length (encodings xs)) (sym split) (encodings_longer (take (at + 1) rows) (drop (at + 1) (take other rows)))

far_by : (rows : List RegularPageEntry) (at other : ℕ) (row : RegularPageEntry) → at < length rows → row ≡ get_or rows at row → first_function rows + 2 ^ 24 ≤ row.function_offset → other ≤ length rows → IsCompressible (take other rows) → (low : Bool) → leb other at ≡ low → other ≤ at
far_by rows at other row within is far most holds true e = leb-true other at e
far_by rows at other row within is far most holds false e =
    let more : at < other = leb-false other at e in
    let long : length (take other rows) ≡ other = length-take-le other rows most in
    let first : first_function (take other rows) ≡ first_function rows = first_front rows other (omega arith) in
    let near : IsNear (first_function (take other rows)) (get_or (take other rows) at row) = all_at (IsNear (first_function (take other rows))) (take other rows) at row holds.near (omega arith) in
    let same : get_or (take other rows) at row ≡ row = get_or-take other rows at row more ∙ sym is in
    let near_row : IsNear (first_function (take other rows)) row = subst (IsNear (first_function (take other rows))) same near in
    absurd (omega arith)

-- the next row is too far away
pub most_far : (rows : List RegularPageEntry) (at : ℕ) (numbers guesses : List ℕ) (row : RegularPageEntry) → IsMeeting rows at numbers guesses → at < length rows → row ≡ get_or rows at row → first_function rows + 2 ^ 24 ≤ row.function_offset → IsMost rows at
most_far rows at numbers guesses row meeting within is far = record {
  within = omega arith;
  holds = compressible rows at numbers guesses meeting (omega arith);
  most = λ other most holds. far_by rows at other row within is far most holds (leb other at) refl;
}

full_by : (rows : List RegularPageEntry) (at other : ℕ) → at < length rows → (256 < length (encodings (take (at + 1) rows))) ⊎ (1021 < at + 1 + length (encodings (take (at + 1) rows))) → other ≤ length rows → IsCompressible (take other rows) → (low : Bool) → leb other at ≡ low → other ≤ at
full_by rows at other within full most holds true e = leb-true other at e
full_by rows at other within (inl full) most holds false e =
    let more : at < other = leb-false other at e in
    let longer = longer_front rows at other more most in
    let indexed = holds.indexed in
    absurd (omega arith)
full_by rows at other within (inr full) most holds false e =
    let more : at < other = leb-false other at e in
    let long : length (take other rows) ≡ other = length-take-le other rows most in
    let longer = longer_front rows at other more most in
    let room = holds.room in
    absurd (omega arith)

-- with the next row there are too many encodings
pub most_indexed : (rows : List RegularPageEntry) (at : ℕ) (numbers guesses new : List ℕ) → IsMeeting rows at numbers guesses → at < length rows → new ≡ encodings (take (at + 1) rows) → 256 < length new → IsMost rows at
most_indexed rows at numbers guesses new meeting within are full = record {
  within = omega arith;
  holds = compressible rows at numbers guesses meeting (omega arith);
  most = λ other most holds. full_by rows at other within (inl (subst (λ (xs : List ℕ). 256 < length xs) are full)) most holds (leb other at) refl;
}

-- or too many bytes
pub most_room : (rows : List RegularPageEntry) (at : ℕ) (numbers guesses new : List ℕ) → IsMeeting rows at numbers guesses → at < length rows → new ≡ encodings (take (at + 1) rows) → 1021 < at + 1 + length new → IsMost rows at
most_room rows at numbers guesses new meeting within are full = record {
  within = omega arith;
  holds = compressible rows at numbers guesses meeting (omega arith);
  most = λ other most holds. full_by rows at other within (inr (subst (λ (xs : List ℕ). 1021 < at + 1 + length xs) are full)) most holds (leb other at) refl;
}

pub most_all : (rows : List RegularPageEntry) (at : ℕ) (numbers guesses : List ℕ) → IsMeeting rows at numbers guesses → at ≡ length rows → IsMost rows (length rows)
most_all rows at numbers guesses meeting all = record {
  within = omega arith;
  holds = subst (λ (n : ℕ). IsCompressible (take n rows)) all (compressible rows at numbers guesses meeting (omega arith));
  most = λ other most holds. most;
}

pub all_met : (rows : List RegularPageEntry) (at : ℕ) (numbers guesses : List ℕ) → IsMeeting rows at numbers guesses → at ≡ length rows → numbers ≡ encodings (take (length rows) rows)
all_met rows at numbers guesses meeting all = meeting.are ∙ ap (λ (n : ℕ). encodings (take n rows)) all

-- without the encoding of a row that doesn't fit
pub met_before : (rows : List RegularPageEntry) (at before : ℕ) (numbers guesses new rest : List ℕ) (row : RegularPageEntry) → IsMeeting rows at numbers guesses → new ≡ with_new numbers row.encoding → before ≡ length numbers → rest ≡ take before new → rest ≡ encodings (take at rows)
met_before rows at before numbers guesses new rest row meeting e before_is rest_is =
    rest_is ∙ ap (λ (n : ℕ). take n new) before_is ∙ ap (take (length numbers)) e ∙ new_front numbers row.encoding ∙ meeting.are

-- ---- the first page

pub first_compressed : (rows page : List RegularPageEntry) (count : ℕ) → 0 < length rows → IsMost rows count → 511 < count → page ≡ take count rows → IsFirstPage rows page
first_compressed rows page count some most many e = record {
  some = some;
  count = count;
  most = most;
  split = let compressed = lt-ltb 511 count many in rw compressed e;
}

pub first_regular : (rows page : List RegularPageEntry) (count : ℕ) → 0 < length rows → IsMost rows count → count ≤ 511 → page ≡ take (min (length rows) 511) rows → IsFirstPage rows page
first_regular rows page count some most few e = record {
  some = some;
  count = count;
  most = most;
  split =
      let regular = le-ltb 511 count few in
      let swapped : min (length rows) 511 ≡ min 511 (length rows) = grind arith in
      rw regular (e ∙ ap (λ (n : ℕ). take n rows) swapped ∙ take_min 511 rows);
}

some_by : (rows page : List RegularPageEntry) (count : ℕ) → page ≡ take (page_length count) rows → 0 < length rows → (many : Bool) → ltb 511 count ≡ many → 0 < length page
some_by rows page count split some true e =
    let many = ltb-true 511 count e in
    let is : page ≡ take count rows = split ∙ ap (λ (b : Bool). take (cond b count 511) rows) e in
    let long : length page ≡ min count (length rows) = ap length is ∙ length-take count rows in
    grind arith
some_by rows page count split some false e =
    let is : page ≡ take 511 rows = split ∙ ap (λ (b : Bool). take (cond b count 511) rows) e in
    let long : length page ≡ min 511 (length rows) = ap length is ∙ length-take 511 rows in
    grind arith

pub page_some : (rows page : List RegularPageEntry) → IsFirstPage rows page → 0 < length page
page_some rows page first = some_by rows page first.count first.split first.some (ltb 511 first.count) refl

-- ---- all pages

pub record IsCutting (rows rest : List RegularPageEntry) (pages : List Page) : Type 0 where
  pub joins : (later : List (List RegularPageEntry)) → ArePages rest later → ArePages rows (held pages ++ later)

pub cutting_starts : (rows : List RegularPageEntry) → IsCutting rows rows []
cutting_starts rows = record { joins = λ later are. are }

pub cutting_goes_on : (rows rest next : List RegularPageEntry) (pages new : List Page) (page : Page) → IsCutting rows rest pages → IsFirstPage rest page.rows.now → next ≡ drop (length page.rows.now) rest → new ≡ pages ++ page ∷ [] → IsCutting rows next new
cutting_goes_on rows rest next pages new page cutting first next_is e = record {
  joins = λ later are.
      let joined : held new ++ later ≡ held pages ++ page.rows.now ∷ later = ap (λ (ps : List Page). held ps ++ later) e ∙ ap (λ (ps : List (List RegularPageEntry)). ps ++ later) (map-append (λ (p : Page). p.rows.now) pages (page ∷ [])) ∙ append_assoc (held pages) (page.rows.now ∷ []) later in
      subst (ArePages rows) (sym joined) (cutting.joins (page.rows.now ∷ later) (first, subst (λ (xs : List RegularPageEntry). ArePages xs later) next_is are));
}

pub cutting_ends : (rows rest : List RegularPageEntry) (pages : List Page) → IsCutting rows rest pages → rest ≡ [] → ArePages rows (held pages)
cutting_ends rows rest pages cutting none = subst (ArePages rows) (append-nil (held pages)) (cutting.joins [] none)

none_of : {X : Type 0} (xs : List X) → length xs ≡ 0 → xs ≡ []
none_of [] e = refl
none_of (x ∷ xs) e = absurd (omega arith)

pub cutting_ends_len : (rows rest : List RegularPageEntry) (pages : List Page) → IsCutting rows rest pages → length rest ≡ 0 → ArePages rows (held pages)
cutting_ends_len rows rest pages cutting none = cutting_ends rows rest pages cutting (none_of rest none)

pub page_within : (rows page : List RegularPageEntry) → IsFirstPage rows page → length page ≤ length rows
page_within rows page first =
    let long : length page ≡ min (page_length first.count) (length rows) = ap length first.split ∙ length-take (page_length first.count) rows in
    grind arith

pub rest_shorter : (rows page next : List RegularPageEntry) → IsFirstPage rows page → next ≡ drop (length page) rows → length next < length rows
rest_shorter rows page next first is =
    let some = page_some rows page first in
    let within = page_within rows page first in
    let long : length next ≡ length rows - length page = ap length is ∙ length-drop (length page) rows in
    omega arith

pub ruleset cutting = (cutting_starts, cutting_goes_on, cutting_ends, cutting_ends_len, page_some, page_within, rest_shorter, take_rest)

pub encodings_next : (rows : List RegularPageEntry) (at : ℕ) (numbers guesses new : List ℕ) (row : RegularPageEntry) → IsMeeting rows at numbers guesses → at < length rows → row ≡ get_or rows at row → new ≡ with_new numbers row.encoding → new ≡ encodings (take (at + 1) rows)
encodings_next rows at numbers guesses new row meeting within is e =
    e ∙ ap (λ (xs : List ℕ). with_new xs row.encoding) meeting.are ∙ sym (encodings_more rows at row within is)

pub ruleset meeting = (meeting_starts, meeting_goes_on, most_far, most_indexed, most_room, most_all, all_met, met_before, encodings_next)

pub held_compressed : (rows : List RegularPageEntry) (count : ℕ) (page : Page) → IsMost rows count → page.rows.now ≡ take count rows → page.encodings.items ≡ encodings (take count rows) → IsHeld page
held_compressed rows count page most e are = λ many. (
  subst IsCompressible (sym e) most.holds,
  are ∙ ap encodings (sym e),
)

pub held_regular : (page : Page) → length page.rows.now ≤ 511 → IsHeld page
held_regular page few = λ many. absurd (omega arith)

pub ruleset first_pages = (first_compressed, first_regular, held_compressed, held_regular)
