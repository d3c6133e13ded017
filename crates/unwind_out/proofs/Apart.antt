-- Functions that stand apart, one after another.
use Rattle.std.proofs.Common.{◌≡◌, ℕ, ◌+◌, ◌<◌, ◌≤◌, ◌↔◌, true, false, IsTrue, List, [], ◌∷◌, length, get_or, drop, refl, sym, subst, arith}
use Rattle.std.proofs.lemmas.Bool.{false≢true}
use Rattle.std.proofs.lemmas.List.{at_drop_all}
use Rattle.list_lemmas.proofs.Places.{from_here}
use Rattle.unwind_out.specs.declared.row.UnwindRow.{UnwindRow}
use Rattle.unwind_out.specs.Table.{BeginsAfter, AreApart}

-- all are apart where those from a place on are
pub record IsApartFrom (rows : List UnwindRow) (at place : ℕ) : Type 0 where
  pub there : AreApart rows → BeginsAfter place (drop at rows) × AreApart (drop at rows)
  pub back : BeginsAfter place (drop at rows) × AreApart (drop at rows) → AreApart rows

begins_at_0 : (rows : List UnwindRow) → BeginsAfter 0 rows
begins_at_0 [] = tt
begins_at_0 (row ∷ rows) = omega arith

pub apart_starts : (rows : List UnwindRow) → IsApartFrom rows 0 0
apart_starts rows = record { there = λ apart. (begins_at_0 rows, apart); back = λ both. both.1 }

abbrev Follow : ℕ → List UnwindRow → Type 0
Follow place rows = BeginsAfter place rows × AreApart rows

pub apart_goes_on : (rows : List UnwindRow) (at place : ℕ) (row : UnwindRow) → IsApartFrom rows at place → at < length rows → row ≡ get_or rows at row → place ≤ row.function → row.function < row.end → IsApartFrom rows (at + 1) row.end
apart_goes_on rows at place row from within is begins ends =
    let here : drop at rows ≡ row ∷ drop (at + 1) rows = from_here rows at row within is in
    record {
      there = λ apart. let both : Follow place (row ∷ drop (at + 1) rows) = subst (Follow place) here (from.there apart) in (both.1.1, both.1.2);
      back = λ both. let later : Follow place (row ∷ drop (at + 1) rows) = (begins, (ends, both.0, both.1)) in from.back (subst (Follow place) (sym here) later);
    }

-- a function begins before the one before it ends
pub apart_begins : (rows : List UnwindRow) (at place : ℕ) (row : UnwindRow) → IsApartFrom rows at place → at < length rows → row ≡ get_or rows at row → row.function < place → IsTrue false ↔ AreApart rows
apart_begins rows at place row from within is low = (
  λ h. absurd (false≢true h),
  λ apart.
      let both : Follow place (row ∷ drop (at + 1) rows) = subst (Follow place) (from_here rows at row within is) (from.there apart) in
      let begins : place ≤ row.function = both.0 in
      absurd (omega arith),
)

-- or ends where it begins at the latest
pub apart_ends : (rows : List UnwindRow) (at place : ℕ) (row : UnwindRow) → IsApartFrom rows at place → at < length rows → row ≡ get_or rows at row → row.end ≤ row.function → IsTrue false ↔ AreApart rows
apart_ends rows at place row from within is low = (
  λ h. absurd (false≢true h),
  λ apart.
      let both : Follow place (row ∷ drop (at + 1) rows) = subst (Follow place) (from_here rows at row within is) (from.there apart) in
      let ends : row.function < row.end = both.1.0 in
      absurd (omega arith),
)

pub apart_all : (rows : List UnwindRow) (at place : ℕ) → IsApartFrom rows at place → length rows ≤ at → IsTrue true ↔ AreApart rows
apart_all rows at place from past =
    let none : drop at rows ≡ [] = at_drop_all (λ (xs : List UnwindRow). xs) rows at past in
    (λ h. from.back (subst (Follow place) (sym none) (tt, tt)), λ apart. refl)

pub ruleset telling_apart = (apart_starts, apart_goes_on, apart_begins, apart_ends, apart_all)
