-- The row of a place, where the rows are those of functions.
use Rattle.std.proofs.Common.{◌≡◌, ℕ, suc, ◌-◌, ◌<◌, ◌≤◌, ltb, leb, Bool, true, false, inl, inr, List, [], ◌∷◌, ◌++◌, length, get_or, Option, Some, None, refl, sym, ap, subst, ◌∙◌, arith}
use Rattle.std.specs.List.{AllByRecursion}
use Rattle.std.proofs.lemmas.Bool.{le-leb, lt-leb, lt-ltb, ltb-true, le-ltb, ltb-false}
use Rattle.list_lemmas.proofs.Members.{In, all_weaker}
use Rattle.image_format.specs.declared.unwind.RegularPageEntry.{RegularPageEntry}
use Rattle.unwind_out.specs.declared.row.UnwindRow.{UnwindRow}
use Rattle.unwind_out.specs.Lookup.{greater, before, row_at}
use Rattle.unwind_out.specs.Table.{BeginsAfter, AreApart, row_of, gap, rows_of, no_row, end_of}
use Rattle.unwind_out.specs.Law.{Outside}
use Rattle.unwind_out.proofs.Places.{greater_none}

pub all_append : {X : Type 0} (P : X → Type 0) (xs ys : List X) → AllByRecursion P xs → AllByRecursion P ys → AllByRecursion P (xs ++ ys)
all_append P [] ys a b = b
all_append P (x ∷ xs) ys a b = (a.0, all_append P xs ys a.1 b)

abbrev pub After : ℕ → RegularPageEntry → Type 0
After place row = place ≤ row.function_offset

after_weaker : (low high : ℕ) → low ≤ high → (rows : List RegularPageEntry) → AllByRecursion (After high) rows → AllByRecursion (After low) rows
after_weaker low high le rows all = all_weaker (After high) (After low) (λ row h. omega arith) rows all

gap_by : (end : ℕ) (next : UnwindRow) (rows : List UnwindRow) (there : Bool) → ltb end next.function ≡ there → AllByRecursion (After end) (gap end (next ∷ rows))
gap_by end next rows true e = rw e ((omega arith), tt)
gap_by end next rows false e = rw e tt

gap_after : (end : ℕ) (rows : List UnwindRow) → AllByRecursion (After end) (gap end rows)
gap_after end [] = tt
gap_after end (next ∷ rows) = gap_by end next rows (ltb end next.function) refl

-- the rows of functions that begin at a place at the earliest do so too
pub rows_after : (slots : List ℕ) (rows : List UnwindRow) (place : ℕ) → AreApart rows → BeginsAfter place rows → AllByRecursion (After place) (rows_of slots rows)
unfolding rows_of
rows_after slots [] place apart begins = tt
rows_after slots (row ∷ rows) place apart begins =
    let ends : row.function < row.end = apart.0 in
    let behind : AllByRecursion (After row.end) (gap row.end rows ++ rows_of slots rows) = all_append (After row.end) (gap row.end rows) (rows_of slots rows) (gap_after row.end rows) (rows_after slots rows row.end apart.2 apart.1) in
    (begins, after_weaker place row.end (omega arith) (gap row.end rows ++ rows_of slots rows) behind)

before_none : (offset : ℕ) (row : RegularPageEntry) → offset < row.function_offset → before offset row ≡ None
before_none offset row far = let high = lt-leb row.function_offset offset far in rw high refl

before_some : (offset : ℕ) (row : RegularPageEntry) → row.function_offset ≤ offset → before offset row ≡ Some row
before_some offset row near = let low = le-leb row.function_offset offset near in rw low refl

-- rows after a place don't count
pub none_at : (offset place : ℕ) (rows : List RegularPageEntry) → offset < place → AllByRecursion (After place) rows → row_at offset rows ≡ None
unfolding row_at
none_at offset place [] low all = refl
none_at offset place (row ∷ rows) low all =
    let far : place ≤ row.function_offset = all.0 in
    ap (λ (b : Option RegularPageEntry). greater b (row_at offset rows)) (before_none offset row (omega arith)) ∙ none_at offset place rows low all.1

pub first_at : (offset : ℕ) (row : RegularPageEntry) (rows : List RegularPageEntry) → row.function_offset ≤ offset → row_at offset rows ≡ None → row_at offset (row ∷ rows) ≡ Some row
unfolding row_at
first_at offset row rows near none =
    ap (λ (b : Option RegularPageEntry). greater b (row_at offset rows)) (before_some offset row near) ∙ ap (greater (Some row)) none ∙ greater_none (Some row)

later_wins : (a b : RegularPageEntry) → a.function_offset ≤ b.function_offset → greater (Some a) (Some b) ≡ Some b
later_wins a b le = let high = le-ltb b.function_offset a.function_offset le in rw high refl

either : (offset : ℕ) (row found : RegularPageEntry) (near : Bool) → leb row.function_offset offset ≡ near → row.function_offset ≤ found.function_offset → greater (before offset row) (Some found) ≡ Some found
either offset row found true e le = rw e (later_wins row found le)
either offset row found false e le = rw e refl

-- a row that counts behind others counts before a row that isn't after it, too
pub behind_at : (offset : ℕ) (row found : RegularPageEntry) (rows : List RegularPageEntry) → row.function_offset ≤ found.function_offset → row_at offset rows ≡ Some found → row_at offset (row ∷ rows) ≡ Some found
unfolding row_at
behind_at offset row found rows le is = ap (greater (before offset row)) is ∙ either offset row found (leb row.function_offset offset) refl le

behind_all : (offset : ℕ) (front : List RegularPageEntry) (found : RegularPageEntry) (rows : List RegularPageEntry) → AllByRecursion (λ row. row.function_offset ≤ found.function_offset) front → row_at offset rows ≡ Some found → row_at offset (front ++ rows) ≡ Some found
behind_all offset [] found rows all is = is
behind_all offset (row ∷ front) found rows all is = behind_at offset row found (front ++ rows) all.0 (behind_all offset front found rows all.1 is)

gap_before_by : (end : ℕ) (next : UnwindRow) (rows : List UnwindRow) (place : ℕ) → end ≤ place → (there : Bool) → ltb end next.function ≡ there → AllByRecursion (λ row. row.function_offset ≤ place) (gap end (next ∷ rows))
gap_before_by end next rows place le true e = rw e (le, tt)
gap_before_by end next rows place le false e = rw e tt

gap_before : (end : ℕ) (rows : List UnwindRow) (place : ℕ) → end ≤ place → AllByRecursion (λ row. row.function_offset ≤ place) (gap end rows)
gap_before end [] place le = tt
gap_before end (next ∷ rows) place le = gap_before_by end next rows place le (ltb end next.function) refl

-- each of some functions begins at a place at the earliest
pub all_begin_after : (rows : List UnwindRow) (place : ℕ) (row : UnwindRow) → AreApart rows → BeginsAfter place rows → In row rows → place ≤ row.function
all_begin_after [] place row apart begins there = absurd there
all_begin_after (first ∷ rows) place row apart begins (inl e) = subst (λ (r : UnwindRow). place ≤ r.function) e begins
all_begin_after (first ∷ rows) place row apart begins (inr there) =
    let ends : first.function < first.end = apart.0 in
    let later = all_begin_after rows first.end row apart.2 apart.1 there in
    omega arith

-- in the range of a function its row counts
pub range_at : (slots : List ℕ) (rows : List UnwindRow) (row : UnwindRow) (offset : ℕ) → AreApart rows → In row rows → row.function ≤ offset → offset < row.end → row_at offset (rows_of slots rows) ≡ Some (row_of slots row)
unfolding rows_of
range_at slots [] row offset apart there low high = absurd there
range_at slots (first ∷ rows) row offset apart (inl e) low high =
    let behind : AllByRecursion (After first.end) (gap first.end rows ++ rows_of slots rows) = all_append (After first.end) (gap first.end rows) (rows_of slots rows) (gap_after first.end rows) (rows_after slots rows first.end apart.2 apart.1) in
    let from : first.function ≤ offset = subst (λ (r : UnwindRow). r.function ≤ offset) (sym e) low in
    let upto : offset < first.end = subst (λ (r : UnwindRow). offset < r.end) (sym e) high in
    first_at offset (row_of slots first) (gap first.end rows ++ rows_of slots rows) from (none_at offset first.end (gap first.end rows ++ rows_of slots rows) upto behind)
    ∙ ap (λ (r : UnwindRow). Some (row_of slots r)) e
range_at slots (first ∷ rows) row offset apart (inr there) low high =
    let ends : first.function < first.end = apart.0 in
    let from : first.end ≤ row.function = all_begin_after rows first.end row apart.2 apart.1 there in
    behind_at offset (row_of slots first) (row_of slots row) (gap first.end rows ++ rows_of slots rows) (omega arith)
    (behind_all offset (gap first.end rows) (row_of slots row) (rows_of slots rows) (gap_before first.end rows row.function from) (range_at slots rows row offset apart.2 there low high))

-- ---- elsewhere

abbrev pub IsQuietRow : Option RegularPageEntry → Type 0
IsQuietRow None = Unit {0}
IsQuietRow (Some row) = row.encoding ≡ 0

pick_by : (a b : RegularPageEntry) (first : Bool) → ltb b.function_offset a.function_offset ≡ first → (found : RegularPageEntry) × (greater (Some a) (Some b) ≡ Some found)
pick_by a b true e = (a, rw e refl)
pick_by a b false e = (b, rw e refl)

pick : (a : RegularPageEntry) (b : Option RegularPageEntry) → (found : RegularPageEntry) × (greater (Some a) b ≡ Some found)
pick a None = (a, refl)
pick a (Some b) = pick_by a b (ltb b.function_offset a.function_offset) refl

-- where a row isn't after the place, some row counts
some_at : (offset : ℕ) (row : RegularPageEntry) (rows : List RegularPageEntry) → row.function_offset ≤ offset → (found : RegularPageEntry) × (row_at offset (row ∷ rows) ≡ Some found)
unfolding row_at
some_at offset row rows near =
    let picked = pick row (row_at offset rows) in
    (picked.0, ap (λ (b : Option RegularPageEntry). greater b (row_at offset rows)) (before_some offset row near) ∙ picked.1)

abbrev pub FoundAfter : ℕ → Option RegularPageEntry → Type 0
FoundAfter place None = Unit {0}
FoundAfter place (Some row) = place ≤ row.function_offset

greater_after_by : (place : ℕ) (a b : RegularPageEntry) → place ≤ a.function_offset → place ≤ b.function_offset → (first : Bool) → ltb b.function_offset a.function_offset ≡ first → FoundAfter place (greater (Some a) (Some b))
greater_after_by place a b h k true e = rw e h
greater_after_by place a b h k false e = rw e k

greater_after : (place : ℕ) (a b : Option RegularPageEntry) → FoundAfter place a → FoundAfter place b → FoundAfter place (greater a b)
greater_after place None b h k = k
greater_after place (Some a) None h k = h
greater_after place (Some a) (Some b) h k = greater_after_by place a b h k (ltb b.function_offset a.function_offset) refl

before_after : (place offset : ℕ) (row : RegularPageEntry) → place ≤ row.function_offset → (near : Bool) → leb row.function_offset offset ≡ near → FoundAfter place (before offset row)
before_after place offset row h true e = rw e h
before_after place offset row h false e = rw e tt

found_after : (place offset : ℕ) (rows : List RegularPageEntry) → AllByRecursion (After place) rows → FoundAfter place (row_at offset rows)
unfolding row_at
found_after place offset [] all = tt
found_after place offset (row ∷ rows) all =
    greater_after place (before offset row) (row_at offset rows) (before_after place offset row all.0 (leb row.function_offset offset) refl) (found_after place offset rows all.1)

quiet_last : (slots : List ℕ) (row : UnwindRow) (offset : ℕ) → offset < row.function → IsQuietRow (row_at offset (rows_of slots (row ∷ [])))
unfolding rows_of
quiet_last slots row offset low =
    let none : row_at offset (row_of slots row ∷ [] ++ []) ≡ None = none_at offset row.function (row_of slots row ∷ [] ++ []) low ((omega arith), tt) in
    subst IsQuietRow (sym none) tt

inside_by : (offset end : ℕ) → (offset < end → ⊥) → (inside : Bool) → ltb offset end ≡ inside → end ≤ offset
inside_by offset end h true e = absurd (h (ltb-true offset end e))
inside_by offset end h false e = ltb-false offset end e

not_inside : (offset end : ℕ) → (offset < end → ⊥) → end ≤ offset
not_inside offset end h = inside_by offset end h (ltb offset end) refl

abbrev closing : ℕ → RegularPageEntry
closing end = record { function_offset = end; encoding = 0 }

with_gap : (slots : List ℕ) (row next : UnwindRow) (rows : List UnwindRow) → ltb row.end next.function ≡ true → rows_of slots (row ∷ next ∷ rows) ≡ row_of slots row ∷ closing row.end ∷ rows_of slots (next ∷ rows)
unfolding rows_of
with_gap slots row next rows there = rw there refl

quiet_closing : (slots : List ℕ) (row next : UnwindRow) (rows : List UnwindRow) (offset : ℕ) → AreApart (row ∷ next ∷ rows) → row.end ≤ offset → offset < next.function → IsQuietRow (row_at offset (rows_of slots (row ∷ next ∷ rows)))
quiet_closing slots row next rows offset apart past far =
    let ends : row.function < row.end = apart.0 in
    let later = rows_of slots (next ∷ rows) in
    let none : row_at offset later ≡ None = none_at offset next.function later far (rows_after slots (next ∷ rows) next.function apart.2 (omega arith)) in
    let there : ltb row.end next.function ≡ true = lt-ltb row.end next.function (omega arith) in
    let closes : row_at offset (row_of slots row ∷ closing row.end ∷ later) ≡ Some (closing row.end) =
    behind_at offset (row_of slots row) (closing row.end) (closing row.end ∷ later) (omega arith) (first_at offset (closing row.end) later past none) in
    subst (λ (xs : List RegularPageEntry). IsQuietRow (row_at offset xs)) (sym (with_gap slots row next rows there)) (subst IsQuietRow (sym closes) refl)

-- before the next function begins
quiet_gap : (slots : List ℕ) (row next : UnwindRow) (rows : List UnwindRow) (offset : ℕ) → AreApart (row ∷ next ∷ rows) → Outside offset row → offset < next.function → (low : Bool) → ltb offset row.function ≡ low → IsQuietRow (row_at offset (rows_of slots (row ∷ next ∷ rows)))
quiet_gap slots row next rows offset apart outside far true e =
    let low : offset < row.function = ltb-true offset row.function e in
    let none : row_at offset (rows_of slots (row ∷ next ∷ rows)) ≡ None = none_at offset row.function (rows_of slots (row ∷ next ∷ rows)) low (rows_after slots (row ∷ next ∷ rows) row.function apart (omega arith)) in
    subst IsQuietRow (sym none) tt
quiet_gap slots row next rows offset apart outside far false e =
    let from : row.function ≤ offset = ltb-false offset row.function e in
    let past : row.end ≤ offset = not_inside offset row.end (outside from) in
    quiet_closing slots row next rows offset apart past far

split_rows : (slots : List ℕ) (row : UnwindRow) (rows : List UnwindRow) → rows_of slots (row ∷ rows) ≡ (row_of slots row ∷ gap row.end rows) ++ rows_of slots rows
unfolding rows_of
split_rows slots row rows = refl

quiet_later : (slots : List ℕ) (row next : UnwindRow) (rows : List UnwindRow) (offset : ℕ) (found : RegularPageEntry) → AreApart (row ∷ next ∷ rows) → row_at offset (rows_of slots (next ∷ rows)) ≡ Some found → next.function ≤ found.function_offset → IsQuietRow (row_at offset (rows_of slots (next ∷ rows))) → IsQuietRow (row_at offset (rows_of slots (row ∷ next ∷ rows)))
quiet_later slots row next rows offset found apart is after quiet =
    let ends : row.function < row.end = apart.0 in
    let begins : row.end ≤ next.function = apart.1 in
    let same : row_at offset ((row_of slots row ∷ gap row.end (next ∷ rows)) ++ rows_of slots (next ∷ rows)) ≡ Some found =
    behind_all offset (row_of slots row ∷ gap row.end (next ∷ rows)) found (rows_of slots (next ∷ rows)) ((omega arith), gap_before row.end (next ∷ rows) found.function_offset (omega arith)) is in
    subst IsQuietRow (sym (ap (row_at offset) (split_rows slots row (next ∷ rows)) ∙ same)) (subst IsQuietRow is quiet)

found_next : (slots : List ℕ) (next : UnwindRow) (rows : List UnwindRow) (offset : ℕ) → next.function ≤ offset → (found : RegularPageEntry) × (row_at offset (rows_of slots (next ∷ rows)) ≡ Some found)
unfolding rows_of
found_next slots next rows offset from = some_at offset (row_of slots next) (gap next.end rows ++ rows_of slots rows) from

before_by : (row : UnwindRow) (offset : ℕ) → Outside offset row → offset < row.end → (low : Bool) → ltb offset row.function ≡ low → offset < row.function
before_by row offset outside below true e = ltb-true offset row.function e
before_by row offset outside below false e = absurd (outside (ltb-false offset row.function e) below)

pub end_one : (row : UnwindRow) → end_of (row ∷ []) ≡ row.end
end_one row = let last : length (row ∷ []) - 1 ≡ 0 = omega arith in ap (λ (k : ℕ). (get_or (row ∷ []) k no_row).end) last

pub end_more : (row next : UnwindRow) (rows : List UnwindRow) → end_of (row ∷ next ∷ rows) ≡ end_of (next ∷ rows)
end_more row next rows = let last : length (row ∷ next ∷ rows) - 1 ≡ suc (length (next ∷ rows) - 1) = omega arith in ap (λ (k : ℕ). (get_or (row ∷ next ∷ rows) k no_row).end) last

end_later : (row next : UnwindRow) (rows : List UnwindRow) (offset : ℕ) → offset < end_of (row ∷ next ∷ rows) → offset < end_of (next ∷ rows)
end_later row next rows offset below = subst (λ (n : ℕ). offset < n) (end_more row next rows) below

quiet_by : (slots : List ℕ) (row next : UnwindRow) (rows : List UnwindRow) (offset : ℕ) → AreApart (row ∷ next ∷ rows) → AllByRecursion (Outside offset) (row ∷ next ∷ rows) → offset < end_of (row ∷ next ∷ rows) → IsQuietRow (row_at offset (rows_of slots (next ∷ rows))) → (far : Bool) → ltb offset next.function ≡ far → IsQuietRow (row_at offset (rows_of slots (row ∷ next ∷ rows)))
quiet_by slots row next rows offset apart outside below later true e =
    quiet_gap slots row next rows offset apart outside.0 (ltb-true offset next.function e) (ltb offset row.function) refl
quiet_by slots row next rows offset apart outside below later false e =
    let found = found_next slots next rows offset (ltb-false offset next.function e) in
    let after : next.function ≤ found.0.function_offset = subst (FoundAfter next.function) found.1 (found_after next.function offset (rows_of slots (next ∷ rows)) (rows_after slots (next ∷ rows) next.function apart.2 (omega arith))) in
    quiet_later slots row next rows offset found.0 apart found.1 after later

-- in no function's range nothing is known
pub quiet_at : (slots : List ℕ) (rows : List UnwindRow) (offset : ℕ) → AreApart rows → AllByRecursion (Outside offset) rows → offset < end_of rows → IsQuietRow (row_at offset (rows_of slots rows))
quiet_at slots [] offset apart outside below = absurd (omega arith)
quiet_at slots (row ∷ []) offset apart outside below = quiet_last slots row offset (before_by row offset outside.0 (subst (λ (n : ℕ). offset < n) (end_one row) below) (ltb offset row.function) refl)
quiet_at slots (row ∷ next ∷ rows) offset apart outside below = quiet_by slots row next rows offset apart outside below (quiet_at slots (next ∷ rows) offset apart.2 outside.1 (end_later row next rows offset below)) (ltb offset next.function) refl
