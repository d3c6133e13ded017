-- Loops that make a list from another one, element by element.
use Rattle.std.proofs.Common.{◌≡◌, ℕ, ◌+◌, ◌<◌, ◌≤◌, ◌==◌, Bool, true, false, List, [], ◌∷◌, ◌++◌, length, take, drop, get_or, refl, sym, ap, subst, ◌∙◌, arith, append_assoc, append-nil}
use Rattle.std.specs.List.{AllByRecursion, flat_map}
use Rattle.unwind_out.specs.Law.{AreFields}
use Rattle.unwind_out.proofs.Slots.{with_slot_longer}
use Rattle.std.proofs.lemmas.List.{at_drop_more, at_drop_all, take_all, take_more, take_rest}
use Rattle.image_format.specs.declared.unwind.RegularPageEntry.{RegularPageEntry}
use Rattle.unwind_out.specs.declared.row.UnwindRow.{UnwindRow}
use Rattle.unwind_out.specs.Table.{with_personality, slots_with, personalities, row_of, gap, rows_of}

pub all_push : {X : Type 0} (P : X → Type 0) (xs : List X) (x : X) → AllByRecursion P xs → P x → AllByRecursion P (xs ++ x ∷ [])
all_push P [] x all here = (here, tt)
all_push P (y ∷ xs) x all here = (all.0, all_push P xs x all.1 here)

-- ---- a loop that puts what each element gives behind the others

pub record IsPutting {X Y : Type 0} (f : X → List Y) (xs : List X) (old : List Y) (at : ℕ) (now : List Y) : Type 0 where
  pub rest : now ++ flat_map f (drop at xs) ≡ old ++ flat_map f xs

pub putting_starts : {X Y : Type 0} (f : X → List Y) (xs : List X) (old : List Y) → IsPutting f xs old 0 old
putting_starts f xs old = record { rest = refl }

pub putting_goes_on : {X Y : Type 0} (f : X → List Y) (xs : List X) (old : List Y) (at : ℕ) (now new : List Y) (x : X) → IsPutting f xs old at now → at < length xs → x ≡ get_or xs at x → new ≡ now ++ f x → IsPutting f xs old (at + 1) new
putting_goes_on {X} {Y} f xs old at now new x putting within is e = record {
  rest = ap (λ (z : List Y). z ++ flat_map f (drop (at + 1) xs)) (e ∙ ap (λ (y : X). now ++ f y) is)
      ∙ append_assoc now (f (get_or xs at x)) (flat_map f (drop (at + 1) xs))
      ∙ ap (λ (z : List Y). now ++ z) (sym (at_drop_more (flat_map f) xs at x within))
      ∙ putting.rest;
}

pub putting_ends : {X Y : Type 0} (f : X → List Y) (xs : List X) (old : List Y) (at : ℕ) (now : List Y) → IsPutting f xs old at now → length xs ≤ at → now ≡ old ++ flat_map f xs
putting_ends {X} {Y} f xs old at now putting past =
    sym (append-nil now) ∙ ap (λ (z : List Y). now ++ z) (sym (at_drop_all (flat_map f) xs at past)) ∙ putting.rest

pub putting_ends_new : {X Y : Type 0} (f : X → List Y) (xs : List X) (at : ℕ) (now : List Y) → IsPutting f xs [] at now → length xs ≤ at → now ≡ flat_map f xs
putting_ends_new f xs at now putting past = putting_ends f xs [] at now putting past

pub ruleset putting = (putting_starts, putting_goes_on, putting_ends, putting_ends_new)

-- ---- the slots of personalities

pub record IsGathering (rows : List UnwindRow) (at : ℕ) (now : List ℕ) : Type 0 where
  pub rest : slots_with now (drop at rows) ≡ personalities rows

pub gathering_starts : (rows : List UnwindRow) → IsGathering rows 0 []
gathering_starts rows = record { rest = refl }

gathered_more : (rows : List UnwindRow) (at : ℕ) (now : List ℕ) (row : UnwindRow) → at < length rows → row ≡ get_or rows at row → slots_with (with_personality row now) (drop (at + 1) rows) ≡ slots_with now (drop at rows)
unfolding slots_with
gathered_more rows at now row within is =
    ap (λ (r : UnwindRow). slots_with (with_personality r now) (drop (at + 1) rows)) is ∙ sym (at_drop_more (slots_with now) rows at row within)

pub gathering_goes_on : (rows : List UnwindRow) (at : ℕ) (now new : List ℕ) (row : UnwindRow) → IsGathering rows at now → at < length rows → row ≡ get_or rows at row → new ≡ with_personality row now → IsGathering rows (at + 1) new
gathering_goes_on rows at now new row gathering within is e = record {
  rest = ap (λ (s : List ℕ). slots_with s (drop (at + 1) rows)) e ∙ gathered_more rows at now row within is ∙ gathering.rest;
}

none_left : (now : List ℕ) (rows : List UnwindRow) → rows ≡ [] → slots_with now rows ≡ now
unfolding slots_with
none_left now rows e = rw e refl

pub gathering_ends : (rows : List UnwindRow) (at : ℕ) (now : List ℕ) → IsGathering rows at now → length rows ≤ at → now ≡ personalities rows
gathering_ends rows at now gathering past =
    sym (none_left now (drop at rows) (at_drop_all (λ (xs : List UnwindRow). xs) rows at past)) ∙ gathering.rest

personality_longer : (row : UnwindRow) (slots : List ℕ) (none : Bool) → (row.personality == 0) ≡ none → length slots ≤ length (with_personality row slots)
personality_longer row slots true e = rw e (omega arith)
personality_longer row slots false e = rw e (with_slot_longer row.personality slots)

-- more functions have no fewer slots
pub slots_longer : (rows : List UnwindRow) (slots : List ℕ) → length slots ≤ length (slots_with slots rows)
unfolding slots_with
slots_longer [] slots = omega arith
slots_longer (row ∷ rows) slots =
    let first : length slots ≤ length (with_personality row slots) = personality_longer row slots (row.personality == 0) refl in
    let rest : length (with_personality row slots) ≤ length (slots_with (with_personality row slots) rows) = slots_longer rows (with_personality row slots) in
    omega arith

pub gathering_many : (rows : List UnwindRow) (at : ℕ) (now new : List ℕ) (row : UnwindRow) → IsGathering rows at now → at < length rows → row ≡ get_or rows at row → new ≡ with_personality row now → 3 < length new → 4 ≤ length (personalities rows)
gathering_many rows at now new row gathering within is e many =
    let next : IsGathering rows (at + 1) new = gathering_goes_on rows at now new row gathering within is e in
    let longer : length new ≤ length (slots_with new (drop (at + 1) rows)) = slots_longer (drop (at + 1) rows) new in
    let whole : length (slots_with new (drop (at + 1) rows)) ≡ length (personalities rows) = ap length next.rest in
    omega arith

pub ruleset gathering = (gathering_starts, gathering_goes_on, gathering_ends, gathering_many)

-- ---- the rows of the section

pub record IsTabling (slots : List ℕ) (rows : List UnwindRow) (at : ℕ) (now : List RegularPageEntry) : Type 0 where
  pub rest : now ++ rows_of slots (drop at rows) ≡ rows_of slots rows
  pub fits : AllByRecursion AreFields (take at rows)

pub tabling_starts : (slots : List ℕ) (rows : List UnwindRow) → IsTabling slots rows 0 []
tabling_starts slots rows = record { rest = refl; fits = tt }

tabled_more : (slots : List ℕ) (rows : List UnwindRow) (at : ℕ) (row : UnwindRow) → at < length rows → row ≡ get_or rows at row → rows_of slots (drop at rows) ≡ row_of slots row ∷ gap row.end (drop (at + 1) rows) ++ rows_of slots (drop (at + 1) rows)
unfolding rows_of
tabled_more slots rows at row within is =
    at_drop_more (rows_of slots) rows at row within
    ∙ ap (λ (r : UnwindRow). row_of slots r ∷ gap r.end (drop (at + 1) rows) ++ rows_of slots (drop (at + 1) rows)) (sym is)

pub tabling_goes_on : (slots : List ℕ) (rows : List UnwindRow) (at : ℕ) (now new : List RegularPageEntry) (row : UnwindRow) (rest : List UnwindRow) → IsTabling slots rows at now → at < length rows → row ≡ get_or rows at row → rest ≡ drop (at + 1) rows → new ≡ now ++ (row_of slots row ∷ gap row.end rest) → AreFields row → IsTabling slots rows (at + 1) new
tabling_goes_on slots rows at now new row rest tabling within is behind e small = record {
  fits =
      let front : take (at + 1) rows ≡ take at rows ++ row ∷ [] = take_more rows at row within ∙ ap (λ (r : UnwindRow). take at rows ++ r ∷ []) (sym is) in
      subst (AllByRecursion AreFields) (sym front) (all_push AreFields (take at rows) row tabling.fits small);
  rest =
      let later = rows_of slots (drop (at + 1) rows) in
      let closing = gap row.end (drop (at + 1) rows) in
      ap (λ (z : List RegularPageEntry). z ++ later) (e ∙ ap (λ (r : List UnwindRow). now ++ (row_of slots row ∷ gap row.end r)) behind)
      ∙ append_assoc now (row_of slots row ∷ closing) later
      ∙ ap (λ (z : List RegularPageEntry). now ++ z) (sym (tabled_more slots rows at row within is))
      ∙ tabling.rest;
}

no_rows : (slots : List ℕ) (rows : List UnwindRow) → rows ≡ [] → rows_of slots rows ≡ []
unfolding rows_of
no_rows slots rows e = rw e refl

pub tabling_ends : (slots : List ℕ) (rows : List UnwindRow) (at : ℕ) (now : List RegularPageEntry) → IsTabling slots rows at now → length rows ≤ at → now ≡ rows_of slots rows
tabling_ends slots rows at now tabling past =
    sym (append-nil now)
    ∙ ap (λ (z : List RegularPageEntry). now ++ z) (sym (no_rows slots (drop at rows) (at_drop_all (λ (xs : List UnwindRow). xs) rows at past)))
    ∙ tabling.rest

pub tabling_fits : (slots : List ℕ) (rows : List UnwindRow) (at : ℕ) (now : List RegularPageEntry) → IsTabling slots rows at now → length rows ≤ at → AllByRecursion AreFields rows
tabling_fits slots rows at now tabling past = subst (AllByRecursion AreFields) (take_all at rows past) tabling.fits

pub ruleset tabling = (tabling_starts, tabling_goes_on, tabling_ends, tabling_fits, take_rest)
